use Rattle.cap_spec.proofs.ProofNames.{arith, common_steps}
use Rattle.cap_text.proofs.Appends.{then}
use Rattle.cap_text.proofs.breaks.push_needed.Goals as goal

pub returns-in-Some-clause-items : goal.returns-in-Some-clause-items
returns-in-Some-clause-items c = grind (arith, common_steps, then)
