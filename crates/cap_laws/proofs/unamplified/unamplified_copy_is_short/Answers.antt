use Rattle.cap_spec.proofs.Strict.Unamplified.{copy_frame_length, copy_length}
use Rattle.cap_laws.proofs.unamplified.unamplified_copy_is_short.Goals as goal

pub returns-clause-words : goal.returns-clause-words
returns-clause-words c = λ m words limit k h. copy_length m words limit k h

pub returns-clause-frame : goal.returns-clause-frame
returns-clause-frame c = λ m words limit k h. copy_frame_length m words limit k h
