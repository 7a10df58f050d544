-- What the call that explains a refusal returns and writes, from the bytes and the capacity alone (profile).
use Rattle.std.specs.Prelude.{Bool, List, None, Option, [], codes, drop, length, not, ℕ, ◌++◌, ◌<◌, ◌∷◌, ◌≡◌, ◌≤◌}
use Rattle.cap_spec.specs.declared.StrictRefusal.{StrictRefusal}
use Rattle.cap_vet.specs.VetNames.{IsAccepted, IsDemandFault, Meets, words_under}
use Rattle.cap_walk.specs.declared.demands.Demands.{Demands}
use Rattle.cap_walk.specs.declared.report.Report.{Report}
use Rattle.cap_trace.specs.declared.returning.Cycle.{Cycle}
use Rattle.cap_explain.specs.Cycles.{IsFaultCycle}
use Rattle.cap_explain.specs.ExplainedFaults.{fault_lines}
use Rattle.cap_calls.specs.CallBounds.{explanation_bound}
use Rattle.cap_calls.specs.CallFindings.{Returns, accepted_found, refused_found}
use Rattle.cap_calls.specs.CallFlags.{allows_trailing, demands_of, has_no_table}
use Rattle.cap_calls.specs.CallInputs.{ReportsInput}
use Rattle.cap_calls.specs.declared.answer.Answer.{Answer}
use Rattle.cap_calls.specs.declared.answer.Answer.TheVariants.{Good, NoMessage, TooLarge, TooManySegments, Trailing, Truncated}
use Rattle.cap_calls.specs.declared.found.Found.{Found}
use Rattle.cap_calls.specs.declared.limits.CallLimits.{CallLimits}
use Rattle.cap_calls.specs.declared.report.CallReport.{CallReport}

-- A text for this buffer, which held `old`: how many bytes the text takes, and what the buffer holds then. It is
-- the text if that fits.
pub data PutsText (text old : List ℕ) (n : ℕ) (new : List ℕ) : Type 0 where
  too_small : length old < length text → n ≡ length text → new ≡ old → PutsText text old n new
  written : length text ≤ length old → n ≡ length text → new ≡ text ++ drop (length text) old
      → PutsText text old n new

-- the reason as a sentence, if the input is no message and nothing else
abbrev pub frame_sentence : Answer → List ℕ
frame_sentence NoMessage = codes "the input is empty"
frame_sentence TooManySegments = codes "the first word of the message says more segments than a message may have"
frame_sentence TooLarge = codes "the segments together have more words than the limit allows"
frame_sentence Truncated = codes "the input ends inside the message"
frame_sentence Trailing = codes "bytes follow the message"
frame_sentence _ = []

-- its line, and none of another answer
abbrev pub frame_line : Answer → List ℕ
frame_line NoMessage = codes "  reason " ++ frame_sentence NoMessage ++ 10 ∷ []
frame_line TooManySegments = codes "  reason " ++ frame_sentence TooManySegments ++ 10 ∷ []
frame_line TooLarge = codes "  reason " ++ frame_sentence TooLarge ++ 10 ∷ []
frame_line Truncated = codes "  reason " ++ frame_sentence Truncated ++ 10 ∷ []
frame_line Trailing = codes "  reason " ++ frame_sentence Trailing ++ 10 ∷ []
frame_line _ = []

-- Of a message, for a buffer that held `old`, and then holds `new`: n is the length of the lines that explain why the
-- message doesn't meet the demands. One names the last cycle of the path, exactly if a limit is passed there and the path
-- has one. There are none if the message meets the demands.
pub data FindsLines (has_table : Bool) (old : List ℕ) (n : ℕ) (new : List ℕ) (demands : Demands) (m : List (List ℕ))
    (words depth : ℕ) (f : Found) : Type 0 where
  explained : (fault : StrictRefusal) (h : IsDemandFault demands m words depth fault) (cycle : Option Cycle)
      → IsFaultCycle demands m words depth fault h cycle
      → PutsText (fault_lines has_table demands m words depth fault h cycle None) old n new
      → f ≡ refused_found fault → FindsLines has_table old n new demands m words depth f
  accepted : (report : Report) → IsAccepted m (words_under demands m words) depth report → Meets demands m words depth
      → f ≡ accepted_found Good 0 report → n ≡ 0 → new ≡ old
      → FindsLines has_table old n new demands m words depth f

-- what is found, without the length of the lines
abbrev pub uncounted : Found → Found
uncounted f = record f { count = 0 }

-- the same, if what is found counts the bytes of the lines, of which so many always suffice
abbrev pub FindsFewLines : Bool → List ℕ → List ℕ → Demands → List (List ℕ) → ℕ → ℕ → Found → Type 0
FindsFewLines has_table old new demands m words depth f =
    FindsLines has_table old f.count new demands m words depth (uncounted f) × (f.count ≤ explanation_bound)

-- Of the message that the input is or starts with, or of an input without one.
abbrev pub ReportsExplanation : CallLimits → List ℕ → List ℕ → Answer → ℕ → List ℕ → CallReport → Type 0
ReportsExplanation l bytes old a n new r =
    (f : Found) × ReportsInput (not (allows_trailing l)) (PutsText (frame_line a) old n new)
    (FindsLines (not (has_no_table l)) old n new (demands_of l)) l bytes f × Returns f a r
