use Rattle.std.proofs.Common.{rules}
use Rattle.cap_calls.proofs.node.CallNode.of.Goals as goal

pub returns : goal.returns
returns g c = search rules
