use Rattle.cap_spec.proofs.ProofNames.{refl, ◌∙◌, length-chunk, chunk}
use Rattle.cap_pack.proofs.Runs.{fulls_by_lanes}
use Rattle.cap_pack.proofs.lanes.vectors.fulls_of_eight.Goals as goal

pub returns : goal.returns
returns c =
    c.before_first.ensures
    ∙ fulls_by_lanes (chunk c.args.at 8 c.args.words.now) c.tags_of_eight.result (length-chunk c.args.at 8 c.args.words.now c.requires)
    c.tags_of_eight.ensures _ refl
