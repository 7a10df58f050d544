use Rattle.std.proofs.Common.{rules}
use Rattle.cap_calls.proofs.node.CallNode.of_values.Goals as goal

pub returns : goal.returns
returns c = search rules
