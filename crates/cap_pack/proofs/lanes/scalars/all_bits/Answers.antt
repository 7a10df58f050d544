use Rattle.std.proofs.Common.{refl}
use Rattle.cap_pack.proofs.WordTags.{words_zero}
use Rattle.cap_pack.proofs.lanes.scalars.all_bits.Goals as goal

pub loop-word-preserved : goal.loop-word-preserved
loop-word-preserved c = words_zero c.args.words.now c.loop-word.bits _ c.loop-word.word-index c.loop-word-test.true c.loop-word.invariant refl
