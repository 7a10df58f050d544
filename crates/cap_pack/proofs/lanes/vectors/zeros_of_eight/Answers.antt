use Rattle.cap_spec.proofs.ProofNames.{refl, ◌∙◌, length-chunk, chunk}
use Rattle.cap_pack.proofs.Runs.{zeros_by_lanes}
use Rattle.cap_pack.proofs.lanes.vectors.zeros_of_eight.Goals as goal

pub returns : goal.returns
returns c =
    c.before_first.ensures ∙ zeros_by_lanes (chunk c.args.at 8 c.args.words.now) (length-chunk c.args.at 8 c.args.words.now c.requires) _ refl
