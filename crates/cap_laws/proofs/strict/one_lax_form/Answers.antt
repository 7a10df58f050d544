use Rattle.cap_spec.proofs.Strict.LaxForms.{empty_by_two, lax_pads, one_lax}
use Rattle.cap_laws.proofs.strict.one_lax_form.Goals as goal

pub returns-clause-one : goal.returns-clause-one
returns-clause-one c = one_lax

pub returns-clause-pads : goal.returns-clause-pads
returns-clause-pads c = lax_pads

pub returns-clause-empty : goal.returns-clause-empty
returns-clause-empty c = empty_by_two
