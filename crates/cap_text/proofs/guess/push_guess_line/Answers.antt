use Rattle.cap_spec.proofs.ProofNames.{arith, common_steps}
use Rattle.cap_text.proofs.Appends.{both_then}
use Rattle.cap_text.proofs.guess.push_guess_line.Goals as goal

pub returns-in-Some : goal.returns-in-Some
returns-in-Some c = grind (arith, common_steps, both_then)
