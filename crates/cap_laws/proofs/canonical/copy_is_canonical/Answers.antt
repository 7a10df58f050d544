use Rattle.cap_spec.proofs.Canonical.Copies.{copy_is_canonical}
use Rattle.cap_laws.proofs.canonical.copy_is_canonical.Goals as goal

pub returns : goal.returns
returns c = λ m words k few. copy_is_canonical m words k few
