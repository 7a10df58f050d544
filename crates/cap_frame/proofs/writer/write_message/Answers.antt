-- The first word, the rest of the table, and the contents.
use Rattle.cap_spec.proofs.ProofNames.{append-nil}
use Rattle.cap_spec.proofs.ProofNames.{rules, arith, common_steps}
use Rattle.cap_frame.proofs.Putting.{frame_from, halts_before, halts_of, leaves_halts, leaves_less, leaves_none, starts}
use Rattle.cap_frame.proofs.writer.write_message.Goals as goal

pub returns-in-Err-clause-put : goal.returns-in-Err-clause-put
returns-in-Err-clause-put g c = search (rules, halts_of, frame_from, halts_before)

pub returns-in-Err-put_sizes-clause-put : goal.returns-in-Err-put_sizes-clause-put
returns-in-Err-put_sizes-clause-put g c = grind (arith, common_steps, frame_from, starts, leaves_halts)

pub returns-in-Err-put_contents-clause-put : goal.returns-in-Err-put_contents-clause-put
returns-in-Err-put_contents-clause-put g c = grind (arith, common_steps, frame_from, starts, leaves_less, leaves_halts, append-nil)

pub returns-clause-put : goal.returns-clause-put
returns-clause-put g c = grind (arith, common_steps, frame_from, starts, leaves_less, append-nil, leaves_none)
