use Rattle.std.proofs.Common.{ap, replicate, ◌++◌, ◌∙◌}
use Rattle.cap_pack.proofs.Shuffles.{scattered}
use Rattle.cap_pack.proofs.lanes.vectors.scatter.Goals as goal

pub returns : goal.returns
returns c =
    scattered c.args.tag c.word_of-2.result c.args.bytes.now c.lanes_of_word-packed.result c.spread_lanes.result c.low_bytes.result
    c.word_of-2.ensures.value c.low_bytes.ensures c.spread_lanes.ensures
    (c.lanes_of_word-packed.ensures ∙ ap (λ bytes. bytes ++ replicate 8 0) c.word_of.ensures.inverse)
