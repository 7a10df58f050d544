use Rattle.std.proofs.Common.{rules}
use Rattle.cap_pack.proofs.packer.Packer.new.Goals as goal

pub returns : goal.returns
returns g c = search rules
