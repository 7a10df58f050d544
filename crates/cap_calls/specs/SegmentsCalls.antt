-- What the call over separate segments returns and reports, from their bytes alone (profile; standard: Messages).
use Rattle.std.specs.Prelude.{List, length, ℕ, ⊤, ◌*◌, ◌≡◌}
use Rattle.cap_calls.specs.CallFindings.{Judges, Returns, framed_found, none_found}
use Rattle.cap_calls.specs.CallFlags.{demands_of}
use Rattle.cap_calls.specs.CallFrames.{AreLimits, HasFrame}
use Rattle.cap_calls.specs.CallReports.{none_report}
use Rattle.cap_calls.specs.Calls.{IsGood}
use Rattle.cap_calls.specs.Slices.{AreSegments, ReportsNoSegments, segments_in, words_of_slices}
use Rattle.cap_calls.specs.declared.answer.Answer.{Answer}
use Rattle.cap_calls.specs.declared.found.Found.{Found}
use Rattle.cap_calls.specs.declared.front.NoFrame.TheVariants.{BadLimits}
use Rattle.cap_calls.specs.declared.limits.CallLimits.{CallLimits}
use Rattle.cap_calls.specs.declared.report.CallReport.{CallReport}
use Rattle.cap_calls.specs.declared.slices.SlicesFault.{SlicesFault}
use Rattle.cap_calls.specs.declared.slices.SlicesFault.TheVariants as fault
use Rattle.cap_calls.specs.declared.answer.Answer.TheVariants as answer

-- what is answered for segments that are no message
abbrev pub segments_answer : SlicesFault → Answer
segments_answer fault.NoSegments = answer.NoMessage
segments_answer (fault.TooManySegments count) = answer.TooManySegments
segments_answer (fault.BadSegment segment) = answer.BadSegment
segments_answer (fault.TooLarge words) = answer.TooLarge

-- and reported: how many segments or words, or which segment
abbrev pub segments_detail : SlicesFault → ℕ
segments_detail fault.NoSegments = 0
segments_detail (fault.TooManySegments count) = count
segments_detail (fault.BadSegment segment) = segment
segments_detail (fault.TooLarge words) = words

-- of segments that are no message
abbrev pub no_segments_found : SlicesFault → Found
no_segments_found f =
    record { answer = segments_answer f; count = 0; report = record none_report { detail = segments_detail f } }

-- Of these limits, and of the bytes of each segment. The length is that of all segments, without a table.
pub data FindsSegments (l : CallLimits) (parts : List (List ℕ)) (f : Found) : Type 0 where
  bad_limits : ¬ AreLimits l → f ≡ none_found BadLimits → FindsSegments l parts f
  no_message : AreLimits l → (cause : SlicesFault) → ReportsNoSegments l.message_words parts cause
      → f ≡ no_segments_found cause
      → FindsSegments l parts f
  message : AreLimits l → AreSegments l.message_words parts → (g : Found)
      → Judges (demands_of l) ⊤ IsGood (segments_in parts) l.charge l.depth g
      → f ≡ framed_found l (8 * words_of_slices parts) (segments_in parts) g
      → FindsSegments l parts f

-- the bytes are a frame of these segments, within the limits
abbrev pub FramesParts : CallLimits → List (List ℕ) → List ℕ → Type 0
FramesParts l parts bytes = AreSegments l.message_words parts
    × ((n : ℕ) × HasFrame l bytes (length bytes) n (segments_in parts))

abbrev pub ReportsSegmentsCall : CallLimits → List (List ℕ) → Answer → CallReport → Type 0
ReportsSegmentsCall l parts a r = (f : Found) × FindsSegments l parts f × Returns f a r
