use Rattle.std.proofs.Common.{refl}
use Rattle.cap_pack.proofs.WordTags.{words_full}
use Rattle.cap_pack.proofs.lanes.scalars.second_gaps.Goals as goal

pub loop-word-preserved : goal.loop-word-preserved
loop-word-preserved c =
    words_full c.args.words.now c.loop-word.gaps c.second_gap-gaps.result _ c.loop-word.word-index c.loop-word-test.true c.loop-word.invariant
    c.second_gap-gaps.ensures refl
