-- The earlier pointer of an overlap, as a call returns it (profile).
use Rattle.std.specs.Prelude.{List, not, ℕ, ⊤, ◌≡◌}
use Rattle.cap_spec.specs.declared.Step.{Step}
use Rattle.cap_trace.specs.EarlierPointers.{IsEarlier}
use Rattle.cap_calls.specs.CallFindings.{Returns}
use Rattle.cap_calls.specs.CallFlags.{allows_trailing}
use Rattle.cap_calls.specs.CallInputs.{ReportsInput}
use Rattle.cap_calls.specs.CallReports.{place_report}
use Rattle.cap_calls.specs.NodeCalls.{path_found}
use Rattle.cap_calls.specs.PointerCalls.{IsNumberedPath}
use Rattle.cap_calls.specs.declared.answer.Answer.{Answer}
use Rattle.cap_calls.specs.declared.answer.Answer.TheVariants.{Good, NoNode}
use Rattle.cap_calls.specs.declared.found.Found.{Found}
use Rattle.cap_calls.specs.declared.limits.CallLimits.{CallLimits}
use Rattle.cap_calls.specs.declared.report.CallReport.{CallReport}

-- of a pointer, apart from its frame
abbrev pub pointer_found : ℕ → ℕ → ℕ → Found
pointer_found s w n = record { answer = Good; count = 0; report = place_report s w n }

-- Of a message: the first pointer that uses a word which pointer n uses too. Or that there is none, or that no such
-- pointer n can be traced, or that no verdict has this number.
pub data FindsEarlierCall (n : ℕ) (m : List (List ℕ)) (words depth : ℕ) (f : Found) : Type 0 where
  earlier : (path : List Step) (s w k : ℕ) → IsNumberedPath m words depth n path → IsEarlier m path s w k
      → f ≡ pointer_found s w k → FindsEarlierCall n m words depth f
  none : ((path : List Step) (s w k : ℕ) → IsNumberedPath m words depth n path → ¬ IsEarlier m path s w k)
      → f ≡ path_found NoNode → FindsEarlierCall n m words depth f

-- Of the message that the input is or starts with.
abbrev pub ReportsEarlierCall : CallLimits → List ℕ → ℕ → Answer → CallReport → Type 0
ReportsEarlierCall l bytes n a r =
    (f : Found) × ReportsInput (not (allows_trailing l)) ⊤ (FindsEarlierCall n) l bytes f × Returns f a r
