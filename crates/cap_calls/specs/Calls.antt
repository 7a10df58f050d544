-- What each call that looks at a message returns and reports
-- (profile; standard: Serialization Over a Stream, Canonicalization).
use Rattle.std.specs.Prelude.{List, not, true, ℕ, ⊤, ◌≡◌}
use Rattle.cap_spec.specs.Copies.{IsCanonical}
use Rattle.cap_walk.specs.declared.report.Report.{Report}
use Rattle.cap_calls.specs.CallFindings.{Judges, Returns, ReportsCall, ReportsWhole, accepted_found}
use Rattle.cap_calls.specs.CallFlags.{allows_trailing, copy_limits, demands_of}
use Rattle.cap_calls.specs.CallInputs.{ReportsInput}
use Rattle.cap_calls.specs.CallReports.{none_report}
use Rattle.cap_calls.specs.declared.answer.Answer.{Answer}
use Rattle.cap_calls.specs.declared.answer.Answer.TheVariants.{Good, NotCanonical}
use Rattle.cap_calls.specs.declared.found.Found.{Found}
use Rattle.cap_calls.specs.declared.limits.CallLimits.{CallLimits}
use Rattle.cap_calls.specs.declared.report.CallReport.{CallReport}

-- of a frame: nothing of its message
abbrev pub FindsFrame : List (List ℕ) → ℕ → ℕ → Found → Type 0
FindsFrame m words depth f = f ≡ record { answer = Good; count = 0; report = none_report }

-- of the frame at the start of the bytes
abbrev pub ReportsFrame : CallLimits → List ℕ → Answer → CallReport → Type 0
ReportsFrame l bytes a r = (f : Found) × ReportsCall ⊤ FindsFrame l bytes f × Returns f a r

-- What a call reports of the message that the bytes are, or by the form start with.
abbrev pub ReportsMessage : Type 0 → (List (List ℕ) → ℕ → ℕ → Found → Type 0) → CallLimits → List ℕ → Found → Type 0
ReportsMessage kept finds l = ReportsWhole (not (allows_trailing l)) kept finds l

-- of a message that is accepted
abbrev pub IsGood : List (List ℕ) → Report → Found → Type 0
IsGood m report f = f ≡ accepted_found Good 0 report

abbrev pub ReportsVet : CallLimits → List ℕ → Answer → CallReport → Type 0
ReportsVet l bytes a r =
    (f : Found) × ReportsInput (not (allows_trailing l)) ⊤ (Judges (demands_of l) ⊤ IsGood) l bytes f × Returns f a r

-- of a message that is accepted: it is its own canonical copy, or isn't
pub data IsCheck (m : List (List ℕ)) (report : Report) (f : Found) : Type 0 where
  canonical : IsCanonical m → f ≡ accepted_found Good 0 report → IsCheck m report f
  not_canonical : ¬ IsCanonical m → f ≡ accepted_found NotCanonical 0 report → IsCheck m report f

-- of the message that the input is: no bytes may follow it, whatever the form says
abbrev pub ReportsCheck : CallLimits → List ℕ → Answer → CallReport → Type 0
ReportsCheck l bytes a r = (f : Found) × ReportsInput true ⊤ (Judges (demands_of l) ⊤ IsCheck) l bytes f × Returns f a r

-- of words without a table, as a canonical copy has them
abbrev pub ReportsCheckWords : CallLimits → List ℕ → Answer → CallReport → Type 0
ReportsCheckWords l words a r = ReportsCheck (copy_limits l) words a r
