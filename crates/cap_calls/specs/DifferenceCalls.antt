-- The first difference of a message from its canonical copy, as a call returns it (profile; standard: Canonicalization).
use Rattle.std.specs.Prelude.{List, true, ℕ, ⊤, ◌≡◌}
use Rattle.cap_spec.specs.Copies.{IsCanonical}
use Rattle.cap_difference.specs.Differences.{FirstDifference}
use Rattle.cap_difference.specs.declared.difference.Difference.{Difference}
use Rattle.cap_walk.specs.declared.report.Report.{Report}
use Rattle.cap_calls.specs.CallFindings.{Judges, Returns, accepted_found}
use Rattle.cap_calls.specs.CallFlags.{demands_of}
use Rattle.cap_calls.specs.CallInputs.{ReportsInput}
use Rattle.cap_calls.specs.CallReports.{difference_report}
use Rattle.cap_calls.specs.declared.answer.Answer.{Answer}
use Rattle.cap_calls.specs.declared.answer.Answer.TheVariants.{Good, NotCanonical}
use Rattle.cap_calls.specs.declared.found.Found.{Found}
use Rattle.cap_calls.specs.declared.limits.CallLimits.{CallLimits}
use Rattle.cap_calls.specs.declared.report.CallReport.{CallReport}

-- of an accepted message with this first difference, apart from its frame
abbrev pub difference_found : Difference → Report → Found
difference_found difference report =
    record { answer = NotCanonical; count = 0; report = difference_report difference report }

-- of a message that is accepted: it is its own canonical copy, or it isn't and this is the first difference
pub data IsDifferent (m : List (List ℕ)) (report : Report) (f : Found) : Type 0 where
  canonical : IsCanonical m → f ≡ accepted_found Good 0 report → IsDifferent m report f
  different : ¬ IsCanonical m → (difference : Difference) → FirstDifference m difference
      → f ≡ difference_found difference report → IsDifferent m report f

-- of the message that the input is: no bytes may follow it, whatever the form says
abbrev pub ReportsDifference : CallLimits → List ℕ → Answer → CallReport → Type 0
ReportsDifference l bytes a r =
    (f : Found) × ReportsInput true ⊤ (Judges (demands_of l) ⊤ IsDifferent) l bytes f × Returns f a r
