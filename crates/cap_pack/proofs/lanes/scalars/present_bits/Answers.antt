use Rattle.cap_pack.proofs.WordTags.{present_by_bits}
use Rattle.cap_pack.proofs.lanes.scalars.present_bits.Goals as goal

pub returns : goal.returns
returns c = present_by_bits c.args.word c.ranges.word.fits
