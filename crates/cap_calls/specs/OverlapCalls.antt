-- What the call that explains an overlap returns and writes, from the bytes, the pointer and the capacity alone (profile).
use Rattle.std.specs.Prelude.{Bool, List, None, Option, Some, not, ℕ, ◌++◌, ◌≡◌, ◌≤◌}
use Rattle.cap_spec.specs.declared.Step.{Step}
use Rattle.cap_explain.specs.Explaining.{overlap_lines}
use Rattle.cap_explain.specs.ExplainedFaults.{earlier_lines}
use Rattle.cap_trace.specs.EarlierPointers.{IsEarlierOf, earlier_path}
use Rattle.cap_trace.specs.declared.earlier.EarlierPointer.{EarlierPointer}
use Rattle.cap_calls.specs.CallBounds.{overlap_bound}
use Rattle.cap_calls.specs.CallFindings.{Returns}
use Rattle.cap_calls.specs.CallFlags.{allows_trailing, has_no_table}
use Rattle.cap_calls.specs.CallInputs.{ReportsInput}
use Rattle.cap_calls.specs.NodeCalls.{path_found}
use Rattle.cap_calls.specs.PackCalls.{ReportsText}
use Rattle.cap_calls.specs.PointerCalls.{IsNumberedPath, steps_found}
use Rattle.cap_calls.specs.declared.answer.Answer.{Answer}
use Rattle.cap_calls.specs.declared.answer.Answer.TheVariants.{NoNode}
use Rattle.cap_calls.specs.declared.calls.explain_overlap.OverlapPointer.{OverlapPointer}
use Rattle.cap_calls.specs.declared.found.Found.{Found}
use Rattle.cap_calls.specs.declared.limits.CallLimits.{CallLimits}
use Rattle.cap_calls.specs.declared.report.CallReport.{CallReport}

-- the lines on a pointer that overlaps, by the path to it, and that of the earlier pointer
abbrev pub both_lines : (has_table : Bool) (p : OverlapPointer) (m : List (List ℕ)) (path : List Step)
    (earlier : Option EarlierPointer) → IsEarlierOf m path earlier → List ℕ
both_lines has_table p m path earlier h =
    overlap_lines has_table (Some path) m None p.segment p.word ++ earlier_lines (earlier_path m path earlier h) earlier

-- Of a message, for a buffer that held `old`, and then holds `new`: the lines on the pointer of this number, and on the
-- first one that uses such a word. Or no such pointer can be traced, or no verdict has this number.
pub data FindsOverlap (has_table : Bool) (p : OverlapPointer) (old new : List ℕ) (m : List (List ℕ)) (words depth : ℕ)
    (f : Found) : Type 0 where
  explained : (path : List Step) (earlier : Option EarlierPointer) (h : IsEarlierOf m path earlier)
      → IsNumberedPath m words depth p.number path → ReportsText (both_lines has_table p m path earlier h) old f.answer f.count new
      → f ≡ steps_found f.answer f.count
      → FindsOverlap has_table p old new m words depth f
  none : ((path : List Step) → ¬ IsNumberedPath m words depth p.number path) → f ≡ path_found NoNode → new ≡ old
      → FindsOverlap has_table p old new m words depth f

-- the same, with so many bytes as always suffice
abbrev pub FindsFewOverlapLines : Bool → OverlapPointer → List ℕ → List ℕ → List (List ℕ) → ℕ → ℕ → Found → Type 0
FindsFewOverlapLines has_table p old new m words depth f =
    FindsOverlap has_table p old new m words depth f × (f.count ≤ overlap_bound)

-- Of the message that the input is or starts with.
abbrev pub ReportsOverlapCall : CallLimits → List ℕ → OverlapPointer → List ℕ → Answer → ℕ → List ℕ → CallReport → Type 0
ReportsOverlapCall l bytes p old a required new r =
    (f : Found) × ReportsInput (not (allows_trailing l)) (new ≡ old) (FindsOverlap (not (has_no_table l)) p old new) l bytes f
    × Returns f a r × (required ≡ f.count)
