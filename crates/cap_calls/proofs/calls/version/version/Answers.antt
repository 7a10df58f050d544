use Rattle.std.proofs.Common.{refl}
use Rattle.cap_calls.proofs.calls.version.version.Goals as goal

pub returns : goal.returns
returns c = refl
