use Rattle.std.proofs.lemmas.Simd.{below_from_Fits, chunk-fits}
use Rattle.cap_spec.proofs.ProofNames.{w64, ◌∙◌, length-chunk, chunk}
use Rattle.cap_pack.proofs.Tags.{eight_tags}
use Rattle.cap_pack.proofs.lanes.vectors.tags_of_eight.Goals as goal

pub returns : goal.returns
returns c =
    let ws = chunk c.args.at 8 c.args.words.now in
    c.bytes_of.ensures.value
    ∙ eight_tags ws (below_from_Fits w64 ws (chunk-fits w64 c.args.at 8 c.args.words.now c.type_inv.words))
    (length-chunk c.args.at 8 c.args.words.now c.requires)
