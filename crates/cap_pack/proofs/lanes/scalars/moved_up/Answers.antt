use Rattle.std.proofs.Common.{arith}
use Rattle.cap_pack.proofs.Moving.{moved_word_up}
use Rattle.cap_pack.proofs.lanes.scalars.moved_up.Goals as goal

pub returns : goal.returns
returns c = moved_word_up c.args.places c.args.word c.args.mask c.ranges.word.fits c.ranges.mask.fits c.requires.mask (omega arith)
