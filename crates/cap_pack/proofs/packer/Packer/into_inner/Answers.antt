use Rattle.std.proofs.Common.{rules}
use Rattle.cap_pack.proofs.packer.Packer.into_inner.Goals as goal

pub returns : goal.returns
returns g c = search rules
