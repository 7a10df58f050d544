use Rattle.std.proofs.Common.{arith, ◌∙◌}
use Rattle.std.proofs.lemmas.Simd.{length-put_chunk}
use Rattle.cap_pack.proofs.Tags.{eights_more}
use Rattle.cap_pack.proofs.lanes.vectors.tags_of_eights.Goals as goal

pub loop-i-preserved : goal.loop-i-preserved
loop-i-preserved c =
    let before = c.loop-i.invariant in
    record {
      len = length-put_chunk c.loop-i.i c.loop-i.out c.tags_of_eight.result ∙ before.len;
      within = omega arith;
      marked = eights_more c.args.words.now c.loop-i.out c.tags_of_eight.result c.loop-i.i (omega arith) before.len c.tags_of_eight.ensures before.marked;
    }
