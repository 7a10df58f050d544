use Rattle.cap_spec.proofs.Strict.FirstLax.{one_first_lax}
use Rattle.cap_laws.proofs.strict.one_first_lax.Goals as goal

pub returns : goal.returns
returns c = one_first_lax
