use Rattle.std.proofs.Common.{rules}
use Rattle.cap_calls.proofs.limits.CallLimits.demands.Goals as goal

pub returns : goal.returns
returns c = search rules
