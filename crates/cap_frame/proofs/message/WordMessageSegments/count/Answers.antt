use Rattle.cap_spec.proofs.ProofNames.{arith, common_steps}
use Rattle.cap_frame.proofs.message.WordMessageSegments.count.Goals as goal

pub returns : goal.returns
returns c = grind (arith, common_steps)
