use Rattle.cap_pack.proofs.Moving.{kept_word}
use Rattle.cap_pack.proofs.lanes.scalars.kept_bytes.Goals as goal

pub returns : goal.returns
returns c = kept_word c.args.word c.args.mask c.ranges.word.fits c.ranges.mask.fits c.requires
