use Rattle.std.proofs.Common.{Err, Ok, false}
use Rattle.cap_frame.proofs.Reading.{no_frame}
use Rattle.cap_frame.proofs.byte_reader.read_byte_message.Goals as goal

pub returns-in-Ok-true : goal.returns-in-Ok-true
returns-in-Ok-true g c = rw c.in-Ok-true.field-0-test at c.in-Ok-true.ensures.read

pub returns-in-Ok-false : goal.returns-in-Ok-false
returns-in-Ok-false g c = no_frame g.S.WordSource (Ok false) (λ h. absurd (cc)) (rw c.in-Ok-false.field-0-test at c.in-Ok-false.ensures.read.next)

pub returns-in-Err : goal.returns-in-Err
returns-in-Err g c = no_frame g.S.WordSource (Err c.in-Err.fault) (λ h. absurd (cc)) c.in-Err.ensures.read.next
