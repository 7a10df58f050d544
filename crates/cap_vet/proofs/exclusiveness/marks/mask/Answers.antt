use Rattle.cap_vet.proofs.Bits.{mask_is}
use Rattle.cap_vet.proofs.exclusiveness.marks.mask.Goals as goal

pub returns : goal.returns
returns c = mask_is c.args.low c.args.high c.requires.some c.requires.few
