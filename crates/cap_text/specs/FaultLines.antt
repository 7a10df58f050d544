-- The lines of faults on standard error (profile).
use Rattle.std.specs.Prelude.{List, [], codes, decimal, ℕ, ◌++◌, ◌∷◌}
use Rattle.cap_spec.specs.Texts.{Verdict, accepted, reason_name, refused, strict_verdict, then_number}
use Rattle.cap_spec.specs.declared.CanonFault.{CanonFault}
use Rattle.cap_spec.specs.declared.CanonFault.TheVariants.{HasCapability, Memory as canon_memory}
use Rattle.cap_spec.specs.declared.Refusal.{Refusal}
use Rattle.cap_words.specs.declared.sources.SourceFault.{SourceFault}
use Rattle.cap_words.specs.declared.sources.SourceFault.TheVariants.{Device as source_device, Spent as source_broken}
use Rattle.cap_words.specs.declared.sources.SourceFault.TheVariants.{Truncated as source_truncated}
use Rattle.cap_frame.specs.declared.fault.FrameFault.{FrameFault}
use Rattle.cap_frame.specs.declared.fault.FrameFault.TheVariants.{Device, Memory, Spent, TooLarge, TooManySegments}
use Rattle.cap_frame.specs.declared.fault.FrameFault.TheVariants.{Truncated}
use Rattle.cap_text.specs.declared.fault.Cause.{Cause}
use Rattle.cap_text.specs.declared.fault.Cause.TheVariants.{Canon, Frame, NotStrict, Output, Refused, TooManyMessages}
use Rattle.cap_text.specs.declared.fault.Cause.TheVariants.{Memory as no_marks}
use Rattle.cap_text.specs.declared.fault.CopyFault.{CopyFault}
use Rattle.cap_text.specs.declared.fault.CopyFault.TheVariants.{TooManyWords, Output as copy_output}
use Rattle.cap_text.specs.declared.fault.CopyFault.TheVariants.{Source as copy_source}
use Rattle.cap_text.specs.declared.fault.RunFault.{RunFault}
use Rattle.cap_text.specs.declared.fault.SingleFault.{SingleFault}
use Rattle.cap_text.specs.declared.fault.SingleFault.TheVariants.{NoMessage, Run, Trailing}

-- the text for a message that can't be read
abbrev pub frame_fault_text : FrameFault → List ℕ
frame_fault_text (TooManySegments count) = codes "TooManySegments" ++ then_number count
frame_fault_text (TooLarge words) = codes "TooLarge" ++ then_number words
frame_fault_text (Truncated byte) = codes "Truncated at byte" ++ then_number byte
frame_fault_text Device = codes "Device"
frame_fault_text Memory = codes "Memory"
frame_fault_text Spent = codes "Spent"

-- the place of a pointer word
abbrev pub place_text : ℕ → ℕ → List ℕ
place_text s w = codes " at" ++ then_number s ++ 58 ∷ decimal w

-- the text for a message whose refusal ended an engine
abbrev pub refusal_text : Refusal → List ℕ
refusal_text r = codes "refused " ++ reason_name r.reason ++ place_text r.segment r.word

-- the text for a message with this verdict, if it is refused: its line without the pointers
abbrev pub refused_text : Verdict → List ℕ
refused_text (accepted c d p k) = []
refused_text (refused name s w p) = codes "refused " ++ name ++ place_text s w

-- the text for a message of which no canonical copy was made
abbrev pub canon_fault_text : CanonFault → List ℕ
canon_fault_text (HasCapability s w) = codes "HasCapability" ++ place_text s w
canon_fault_text canon_memory = codes "Memory"

-- which message it is
abbrev pub message_name : ℕ → List ℕ
message_name n = codes "message" ++ then_number n ++ codes ": "

-- the text for an engine that ended at message n
abbrev pub cause_text : ℕ → Cause → List ℕ
cause_text n TooManyMessages = message_name n ++ codes "TooManyMessages"
cause_text n (Frame fault) = message_name n ++ frame_fault_text fault
cause_text n (Output fault) = codes "output failed"
cause_text n (Refused refusal) = message_name n ++ refusal_text refusal
cause_text n (NotStrict fault) = message_name n ++ refused_text (strict_verdict fault)
cause_text n (Canon fault) = message_name n ++ canon_fault_text fault
cause_text n no_marks = message_name n ++ codes "Memory"

-- the line of a fault
abbrev pub fault_line : ℕ → Cause → List ℕ
fault_line n cause = codes "capvet: " ++ cause_text n cause ++ 10 ∷ []

abbrev pub run_fault_line : RunFault → List ℕ
run_fault_line fault = fault_line fault.message fault.cause

-- the line for an input that isn't exactly one message
abbrev pub single_fault_line : SingleFault → List ℕ
single_fault_line NoMessage = codes "capvet: no message" ++ 10 ∷ []
single_fault_line (Trailing byte) = codes "capvet: message 1: Trailing at byte" ++ then_number byte ++ 10 ∷ []
single_fault_line (Run fault) = run_fault_line fault

-- the text for a source that gave no word
abbrev pub source_fault_text : SourceFault → List ℕ
source_fault_text (source_truncated byte) = codes "Truncated at byte" ++ then_number byte
source_fault_text source_device = codes "Device"
source_fault_text source_broken = codes "Spent"

-- the text for a copy of words that ended early
abbrev pub copy_fault_text : CopyFault → List ℕ
copy_fault_text TooManyWords = codes "TooManyWords"
copy_fault_text (copy_source fault) = source_fault_text fault
copy_fault_text (copy_output fault) = codes "output failed"

-- the line of such a fault
abbrev pub copy_fault_line : CopyFault → List ℕ
copy_fault_line fault = codes "capvet: " ++ copy_fault_text fault ++ 10 ∷ []
