use Rattle.cap_spec.proofs.Strict.FirstLax.{first_lax_or_none}
use Rattle.cap_laws.proofs.strict.first_lax_or_none.Goals as goal

pub returns : goal.returns
returns c = first_lax_or_none
