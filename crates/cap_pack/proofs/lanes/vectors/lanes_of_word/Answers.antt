use Rattle.cap_pack.proofs.Tags.{lanes_of_one}
use Rattle.cap_pack.proofs.lanes.vectors.lanes_of_word.Goals as goal

pub returns : goal.returns
returns c = lanes_of_one c.args.word c.ranges.word.fits
