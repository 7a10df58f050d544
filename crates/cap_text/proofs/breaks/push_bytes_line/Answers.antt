use Rattle.cap_spec.proofs.ProofNames.{arith, common_steps}
use Rattle.cap_text.proofs.Appends.{both_then, then}
use Rattle.cap_text.proofs.breaks.push_bytes_line.Goals as goal

pub returns-clause-items : goal.returns-clause-items
returns-clause-items c = grind (arith, common_steps, both_then, then)
