use Rattle.std.proofs.Common.{rules}
use Rattle.cap_calls.proofs.limits.CallLimits.default_limits.Goals as goal

pub returns : goal.returns
returns c = search rules
