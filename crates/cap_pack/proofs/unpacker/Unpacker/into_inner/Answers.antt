use Rattle.std.proofs.Common.{rules}
use Rattle.cap_pack.proofs.unpacker.Unpacker.into_inner.Goals as goal

pub returns : goal.returns
returns g c = search rules
