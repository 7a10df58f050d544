use Rattle.std.proofs.Common.{rules}
use Rattle.cap_ptr.proofs.shapes.Followed.charge.Goals as goal

pub returns-in-Target : goal.returns-in-Target
returns-in-Target c = search rules
