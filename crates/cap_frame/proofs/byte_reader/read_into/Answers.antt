use Rattle.cap_spec.proofs.ProofNames.{rules}
use Rattle.std.proofs.Common.{Err}
use Rattle.cap_frame.proofs.Reading.{no_frame}
use Rattle.cap_frame.proofs.byte_reader.read_into.Goals as goal

pub returns-in-Ok-true-clause-read : goal.returns-in-Ok-true-clause-read
returns-in-Ok-true-clause-read g c = rw c.in-Ok-true.field-0-test at c.in-Ok-true.ensures.read

pub returns-in-Ok-false-clause-read : goal.returns-in-Ok-false-clause-read
returns-in-Ok-false-clause-read g c = search (rules, no_frame)

pub returns-in-Err-clause-read : goal.returns-in-Err-clause-read
returns-in-Err-clause-read g c = no_frame g.S.WordSource (Err c.in-Err.fault) (λ h. absurd (cc)) c.in-Err.ensures.read.next
