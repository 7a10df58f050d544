-- What a call finds of the message at the start of bytes, from the bytes alone
-- (profile; standard: Serialization Over a Stream).
use Rattle.std.specs.Prelude.{Bool, List, length, sum, true, ℕ, ◌-◌, ◌<◌, ◌≡◌, ◌⊎◌}
use Rattle.cap_spec.specs.Faults.{IsRefused}
use Rattle.cap_spec.specs.Frames.{sizes_of}
use Rattle.cap_spec.specs.declared.Refusal.{Refusal}
use Rattle.cap_spec.specs.declared.StrictRefusal.{StrictRefusal}
use Rattle.cap_spec.specs.declared.StrictRefusal.TheVariants.{Refused}
use Rattle.cap_vet.specs.VetNames.{IsDemandFault, Meets, words_under, IsAccepted}
use Rattle.cap_walk.specs.declared.demands.Demands.{Demands}
use Rattle.cap_walk.specs.declared.report.Report.{Report}
use Rattle.cap_calls.specs.AnswerNumbers.{refusal_answer}
use Rattle.cap_calls.specs.CallFlags.{charge_limit}
use Rattle.cap_calls.specs.CallFrames.{HasFrame, HasNoFrame, HasTrailing}
use Rattle.cap_calls.specs.CallReports.{accepted_report, cause_answer, no_frame_report, refused_report, trailing_report}
use Rattle.cap_calls.specs.declared.answer.Answer.{Answer}
use Rattle.cap_calls.specs.declared.found.Found.{Found}
use Rattle.cap_calls.specs.declared.front.NoFrame.{NoFrame}
use Rattle.cap_calls.specs.declared.limits.CallLimits.{CallLimits}
use Rattle.cap_calls.specs.declared.report.CallReport.{CallReport}
use Rattle.cap_calls.specs.declared.answer.Answer.TheVariants as answer

-- of bytes without a frame
abbrev pub none_found : NoFrame → Found
none_found cause = record { answer = cause_answer cause; count = 0; report = no_frame_report cause }

-- of a message that this many bytes follow, apart from its frame
abbrev pub trailing_found : ℕ → Found
trailing_found bytes = record { answer = answer.Trailing; count = 0; report = trailing_report bytes }

-- of a message that is refused, apart from its frame
abbrev pub refused_found : StrictRefusal → Found
refused_found refusal = record { answer = refusal_answer refusal; count = 0; report = refused_report refusal }

-- of one that is accepted, for which the call has this answer and this number
abbrev pub accepted_found : Answer → ℕ → Report → Found
accepted_found a n report = record { answer = a; count = n; report = accepted_report report }

-- the detail of an answer: of a charge above the limit that limit
abbrev pub detail_of : Answer → ℕ → ℕ → ℕ
detail_of answer.WordLimit limit detail = limit
detail_of _ limit detail = detail

-- the same with the length of the frame in bytes, and the segments of the message and their words. A charge was above the
-- limit that is given.
abbrev pub extent_found : ℕ → ℕ → ℕ → ℕ → Found → Found
extent_found frame segments words limit f =
    record f {
      report = record f.report {
        length = frame;
        segments = segments;
        words = words;
        detail = detail_of f.answer limit f.report.detail;
      };
    }

-- of this message, whose charge may have been above the limit of the call
abbrev pub framed_found : CallLimits → ℕ → List (List ℕ) → Found → Found
framed_found l frame m f = extent_found frame (length m) (sum (sizes_of m)) (charge_limit l m) f

-- The bytes have no frame within the limits, and then something is kept. Or the call finds this of
-- the message in the frame, within the limits of charge and depth.
pub data ReportsCall (kept : Type 0) (finds : List (List ℕ) → ℕ → ℕ → Found → Type 0) (l : CallLimits) (bytes : List ℕ)
    (f : Found) : Type 0 where
  without : (cause : NoFrame) → HasNoFrame l bytes cause → f ≡ none_found cause → kept → ReportsCall kept finds l bytes f
  framed : (m : List (List ℕ)) (frame segments : ℕ) (g : Found) → HasFrame l bytes frame segments m
      → finds m l.charge l.depth g
      → f ≡ framed_found l frame m g → ReportsCall kept finds l bytes f

-- The bytes have to be one message and nothing else, and more bytes follow it; then something is kept.
-- Or the call reports the same as above.
pub data ReportsWhole (whole : Bool) (kept : Type 0) (finds : List (List ℕ) → ℕ → ℕ → Found → Type 0) (l : CallLimits)
    (bytes : List ℕ) (f : Found) : Type 0 where
  trailing : (m : List (List ℕ)) (frame segments : ℕ) → whole ≡ true → HasFrame l bytes frame segments m
      → frame < length bytes
      → f ≡ framed_found l frame m (trailing_found (length bytes - frame)) → kept
      → ReportsWhole whole kept finds l bytes f
  reports : (whole ≡ true → ¬ HasTrailing l bytes) → ReportsCall kept finds l bytes f → ReportsWhole whole kept finds l bytes f

-- The message doesn't meet the demands, and then something is kept. Or it is accepted and meets them,
-- and the call finds this.
pub data Judges (demands : Demands) (kept : Type 0) (finds : List (List ℕ) → Report → Found → Type 0)
    (m : List (List ℕ)) (words depth : ℕ) (f : Found) : Type 0 where
  refused : (refusal : StrictRefusal) → IsDemandFault demands m words depth refusal → f ≡ refused_found refusal → kept
      → Judges demands kept finds m words depth f
  accepted : (report : Report) → IsAccepted m (words_under demands m words) depth report → Meets demands m words depth
      → finds m report f
      → Judges demands kept finds m words depth f

-- The message is refused, and then something is kept. Or it is accepted, and the call finds this. So a
-- call judges with both flags.
abbrev pub JudgesAny : Type 0 → (List (List ℕ) → Report → Found → Type 0) → List (List ℕ) → ℕ → ℕ → Found → Type 0
JudgesAny kept finds m words depth f =
    ((refusal : Refusal) × IsRefused m words depth refusal × (f ≡ refused_found (Refused refusal)) × kept)
    ⊎ ((report : Report) × IsAccepted m words depth report × finds m report f)

-- the answer and the report are those of what is found
abbrev pub Returns : Found → Answer → CallReport → Type 0
Returns f a r = (a ≡ f.answer) × (r ≡ f.report)
