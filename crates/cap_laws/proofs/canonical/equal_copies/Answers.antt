use Rattle.cap_spec.proofs.Canonical.Copies.{equal_copies}
use Rattle.cap_laws.proofs.canonical.equal_copies.Goals as goal

pub returns : goal.returns
returns c = λ m n xs ys h k few less. equal_copies m n xs ys h k few less
