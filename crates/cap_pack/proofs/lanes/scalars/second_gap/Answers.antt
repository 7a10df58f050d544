use Rattle.std.proofs.Common.{refl}
use Rattle.cap_pack.proofs.WordTags.{few_by_gaps}
use Rattle.cap_pack.proofs.lanes.scalars.second_gap.Goals as goal

pub returns : goal.returns
returns c = few_by_gaps c.args.word c.present_bits-absent.result _ c.present_bits-absent.ensures refl
