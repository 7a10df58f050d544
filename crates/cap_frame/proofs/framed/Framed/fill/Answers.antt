use Rattle.std.proofs.Common.{rules}
use Rattle.cap_frame.proofs.framed.Framed.fill.Goals as goal

pub returns-clause-starts : goal.returns-clause-starts
returns-clause-starts c = search rules
