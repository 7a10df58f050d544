use Rattle.cap_spec.proofs.ProofNames.{arith, ◌*◌, take-replicate}
use Rattle.cap_text.proofs.node.spaces.Goals as goal

pub returns : goal.returns
returns c = take-replicate (2 * c.args.level) 514 32 (omega arith)
