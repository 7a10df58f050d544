use Rattle.cap_spec.proofs.Canonical.Copies.{one_copy}
use Rattle.cap_laws.proofs.canonical.one_copy.Goals as goal

pub returns : goal.returns
returns c = λ m xs ys h k. one_copy m xs ys h k
