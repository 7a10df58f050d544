-- Each turn puts the next segment.
use Rattle.cap_spec.proofs.ProofNames.{arith, rules, common_steps}
use Rattle.cap_frame.proofs.Putting.{leaves_halts, leaves_less, segments_from}
use Rattle.cap_frame.proofs.writer.put_contents.Goals as goal

pub returns-in-Err : goal.returns-in-Err
returns-in-Err g c = grind (arith, common_steps, leaves_halts, segments_from)

pub segments-preserved : goal.segments-preserved
segments-preserved g c = search (rules, leaves_less, segments_from)
