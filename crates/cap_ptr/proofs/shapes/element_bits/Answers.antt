use Rattle.std.proofs.Common.{refl}
use Rattle.cap_ptr.proofs.shapes.element_bits.Goals as goal

pub returns-in-1-clause-value : goal.returns-in-1-clause-value
returns-in-1-clause-value c = rw c.in-1.is refl
