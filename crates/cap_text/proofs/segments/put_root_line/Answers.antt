use Rattle.cap_spec.proofs.ProofNames.{arith, common_steps}
use Rattle.cap_text.proofs.Paging.{added_line, halted_more}
use Rattle.cap_text.proofs.segments.put_root_line.Goals as goal

pub returns-in-Ok : goal.returns-in-Ok
returns-in-Ok g c = grind (arith, common_steps, added_line)

pub returns-in-Err : goal.returns-in-Err
returns-in-Err g c = grind (arith, common_steps, halted_more)
