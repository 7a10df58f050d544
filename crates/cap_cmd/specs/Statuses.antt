-- The exit statuses (profile).
use Rattle.std.specs.Prelude.{Err, Ok, Result, if◌then◌else◌, ℕ, ◌&&◌, ◌==◌}
use Rattle.cap_spec.specs.declared.CanonFault.{CanonFault}
use Rattle.cap_spec.specs.declared.CanonFault.TheVariants.{HasCapability, Memory as canon_memory}
use Rattle.cap_words.specs.declared.sources.SourceFault.{SourceFault}
use Rattle.cap_words.specs.declared.sources.SourceFault.TheVariants.{Device as source_device, Spent as source_broken}
use Rattle.cap_words.specs.declared.sources.SourceFault.TheVariants.{Truncated as source_truncated}
use Rattle.cap_frame.specs.declared.fault.FrameFault.{FrameFault}
use Rattle.cap_frame.specs.declared.fault.FrameFault.TheVariants.{Device, Memory, Spent, TooLarge, TooManySegments}
use Rattle.cap_frame.specs.declared.fault.FrameFault.TheVariants.{Truncated}
use Rattle.cap_text.specs.declared.fault.Cause.{Cause}
use Rattle.cap_text.specs.declared.fault.Cause.TheVariants.{Canon, Frame, NotStrict, Output, Refused, TooManyMessages}
use Rattle.cap_text.specs.declared.fault.Cause.TheVariants.{Memory as no_marks}
use Rattle.cap_text.specs.declared.fault.CopyFault.{CopyFault}
use Rattle.cap_text.specs.declared.fault.CopyFault.TheVariants.{TooManyWords, Output as copy_output}
use Rattle.cap_text.specs.declared.fault.CopyFault.TheVariants.{Source as copy_source}
use Rattle.cap_text.specs.declared.fault.RunFault.{RunFault}
use Rattle.cap_text.specs.declared.fault.SingleFault.{SingleFault}
use Rattle.cap_text.specs.declared.fault.SingleFault.TheVariants.{NoMessage, Run, Trailing}
use Rattle.cap_run.specs.declared.settings.Outcome.{Outcome}

-- the status of a message that couldn't be read
abbrev pub frame_status : FrameFault → ℕ
frame_status (TooManySegments count) = 1
frame_status (TooLarge words) = 1
frame_status (Truncated byte) = 1
frame_status Device = 3
frame_status Memory = 3
frame_status Spent = 3

-- the status of a message of which no canonical copy was made
abbrev pub canon_status : CanonFault → ℕ
canon_status (HasCapability s w) = 1
canon_status canon_memory = 3

abbrev pub cause_status : Cause → ℕ
cause_status TooManyMessages = 1
cause_status (Frame fault) = frame_status fault
cause_status (Output fault) = 3
cause_status (Refused refusal) = 1
cause_status (NotStrict fault) = 1
cause_status (Canon fault) = canon_status fault
cause_status no_marks = 3

-- 0 where every message was accepted, and canonical or hashed where that was asked
abbrev pub outcome_status : Outcome → ℕ
outcome_status o = if (o.refused == 0) && (o.noncanonical == 0) then 0 else 1

abbrev pub run_status : Result Outcome RunFault → ℕ
run_status (Ok outcome) = outcome_status outcome
run_status (Err fault) = cause_status fault.cause

-- the status of an input that isn't exactly one message
abbrev pub single_status : SingleFault → ℕ
single_status NoMessage = 1
single_status (Trailing byte) = 1
single_status (Run fault) = cause_status fault.cause

-- the status if a device or memory failed
abbrev pub failed_status : ℕ
failed_status = 3

-- the status of a source that gave no word
abbrev pub source_status : SourceFault → ℕ
source_status (source_truncated byte) = 1
source_status source_device = 3
source_status source_broken = 3

-- 0 where all words were copied
abbrev pub transcode_status : Result ℕ CopyFault → ℕ
transcode_status (Ok words) = 0
transcode_status (Err TooManyWords) = 1
transcode_status (Err (copy_source fault)) = source_status fault
transcode_status (Err (copy_output fault)) = 3
