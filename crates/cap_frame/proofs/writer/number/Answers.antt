use Rattle.std.proofs.Common.{rules}
use Rattle.cap_frame.proofs.writer.number.Goals as goal

pub returns-then-k-eq0 : goal.returns-then-k-eq0
returns-then-k-eq0 g c = search rules
