use Rattle.cap_spec.proofs.Strict.Unamplified.{disjoint_unamplified}
use Rattle.cap_laws.proofs.unamplified.disjoint_is_unamplified.Goals as goal

pub returns : goal.returns
returns c = disjoint_unamplified
