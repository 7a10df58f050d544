use Rattle.std.proofs.Common.{rules}
use Rattle.cap_frame.proofs.table.total.Goals as goal

pub returns : goal.returns
returns c = search rules
