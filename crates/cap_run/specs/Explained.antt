-- What may be written of a message whose refusal is explained (profile).
use Rattle.std.specs.Prelude.{Bool, List, None, Option, Some, [], codes, true, ℕ, ◌*◌, ◌++◌, ◌≡◌, ◌⊎◌}
use Rattle.cap_spec.specs.SpecNames.{IsFirstOverlap, refused, strict_verdict, vet_text}
use Rattle.cap_spec.specs.declared.Step.{Step}
use Rattle.cap_spec.specs.declared.StrictRefusal.{StrictRefusal}
use Rattle.cap_vet.specs.VetNames.{IsDemandFault, Meets, words_under, depth_of, words_of, IsAccepted}
use Rattle.cap_walk.specs.declared.demands.Demands.{Demands}
use Rattle.cap_walk.specs.declared.limits.Limits.{Limits}
use Rattle.cap_walk.specs.declared.report.Report.{Report}
use Rattle.cap_explain.specs.Cycles.{IsFaultCycle}
use Rattle.cap_explain.specs.Explaining.{earlier_explanation, overlap_explanation}
use Rattle.cap_explain.specs.declared.numbers.MessageStart.{MessageStart}
use Rattle.cap_explain.specs.ExplainedFaults.{fault_lines, earlier_lines}
use Rattle.cap_trace.specs.EarlierPointers.{IsEarlierOf, earlier_path}
use Rattle.cap_trace.specs.declared.earlier.EarlierPointer.{EarlierPointer}
use Rattle.cap_trace.specs.declared.returning.Cycle.{Cycle}
use Rattle.cap_text.specs.Lines.{filter_line}
use Rattle.cap_run.specs.Demanding.{IsStrictUnder, OrOverlap}
use Rattle.cap_run.specs.Differing.{OrDifference}
use Rattle.cap_run.specs.Reporting.{PlacedReports, Reports}
use Rattle.cap_run.specs.Vetting.{ReportsAccepted}
use Rattle.cap_run.specs.declared.engines.stream.Counted.{Counted}
use Rattle.cap_run.specs.declared.engines.stream.Counted.TheVariants.{Accepted, NotCanonical, Refused}

-- where a message begins before which there are this many words of an input
abbrev pub start_after : Bool → ℕ → MessageStart
start_after packed before = record { byte = 8 * before; packed = packed }

-- The line of message n if it doesn't meet the demands, and the lines that explain the first reason. One
-- names the last cycle of the path, exactly if a limit is passed there and the path has one. This number of words
-- of the input is before the message.
pub record ReportsFaultLines (packed : Bool) (demands : Demands) (words depth before n : ℕ) (m : List (List ℕ))
    (text : List ℕ) (counted : Counted) : Type 0 where
  pub fault : StrictRefusal
  pub is_fault : IsDemandFault demands m words depth fault
  pub cycle : Option Cycle
  pub is_cycle : IsFaultCycle demands m words depth fault is_fault cycle
  pub lines : text ≡ vet_text n (strict_verdict fault)
      ++ fault_lines true demands m words depth fault is_fault cycle (Some (start_after packed before))
  pub counts : counted ≡ Refused

-- what filter, the guard and the libraries demand of a message
abbrev pub filter_demands : Demands
filter_demands = record { strict = true; unamplified = true }

-- why filter, the guard and the libraries refuse a message under these limits, or that they accept it
abbrev pub RefusedByFilter : List (List ℕ) → ℕ → ℕ → Option StrictRefusal → Type 0
RefusedByFilter m words depth None = Meets filter_demands m words depth
RefusedByFilter m words depth (Some fault) = IsDemandFault filter_demands m words depth fault

-- the line that they refuse a message that begins there, and the lines that explain it, or nothing. An
-- accepted message denotes a finite tree, so no path has a cycle.
abbrev pub filter_lines : (m : List (List ℕ)) (words depth : ℕ) (start : MessageStart)
    (refusal : Option StrictRefusal) → RefusedByFilter m words depth refusal → List ℕ
filter_lines m words depth start None h = []
filter_lines m words depth start (Some fault) h =
    filter_line (strict_verdict fault) ++ fault_lines true filter_demands m words depth fault h None (Some start)

-- what comes after the text of a message, by what is counted of it: those lines if it is accepted
abbrev pub lines_after : (m : List (List ℕ)) (words depth : ℕ) (start : MessageStart)
    (refusal : Option StrictRefusal) → RefusedByFilter m words depth refusal → Counted → List ℕ
lines_after m words depth start refusal h Accepted = filter_lines m words depth start refusal h
lines_after m words depth start refusal h Refused = []
lines_after m words depth start refusal h NotCanonical = []

-- One of these texts of a message, and what comes after it. This number of words of the input is before
-- the message.
pub record HasLinesAfter (packed : Bool) (words depth before : ℕ) (m : List (List ℕ))
    (texts : List ℕ → Counted → Type 0) (text : List ℕ) (counted : Counted) : Type 0 where
  pub first : List ℕ
  pub is_first : texts first counted
  pub refusal : Option StrictRefusal
  pub is_refused : RefusedByFilter m words depth refusal
  pub lines : text ≡ first
      ++ lines_after m words depth (start_after packed before) refusal is_refused counted

-- a text of a message that meets the demands, with what comes after it and whether the message is canonical
-- if that is asked, or those lines
abbrev pub OrFaultLines : Bool → Bool → Demands → (ℕ → ℕ → ℕ → Reports) → ℕ → ℕ → PlacedReports
OrFaultLines packed canonical demands reports words depth before n m text counted =
    (IsStrictUnder demands m words depth × OrDifference canonical (start_after packed before) n m
    (HasLinesAfter packed words depth before m (reports before (words_under demands m words) depth n m)) text counted)
    ⊎ ReportsFaultLines packed demands words depth before n m text counted

-- under the limits of the charge and of the depth
abbrev pub OrFaultLinesIn : Bool → Bool → Demands → (ℕ → ℕ → ℕ → Reports) → Limits → PlacedReports
OrFaultLinesIn packed canonical demands reports limits =
    OrFaultLines packed canonical demands reports (words_of limits) (depth_of limits)

-- The line of message n, which begins there in the input, if this is the first pointer that
-- overlaps: the lines that explain it, and that of the first pointer that uses such a word.
abbrev pub IsOverlapText : (m : List (List ℕ)) (n : ℕ) (start : Option MessageStart) {s w pointers : ℕ}
    → IsFirstOverlap m s w pointers → List ℕ → Type 0
IsOverlapText m n start {s} {w} {pointers} f text =
    (earlier : Option EarlierPointer) × (h : IsEarlierOf m f.path earlier)
    × (text ≡ (vet_text n (refused (codes "Overlap") s w pointers)
    ++ overlap_explanation (Some f.path) m start s w)
    ++ earlier_lines (earlier_path m f.path earlier h) earlier)

-- The line of a message that is accepted and uses some word twice, with the first pointer that
-- overlaps, and the lines that explain it.
pub record ReportsOverlapLines (packed : Bool) (before words depth n : ℕ) (m : List (List ℕ)) (text : List ℕ)
    (counted : Counted) : Type 0 where
  pub report : Report
  pub is_accepted : IsAccepted m words depth report
  pub segment : ℕ
  pub word : ℕ
  pub pointers : ℕ
  pub is_first : IsFirstOverlap m segment word pointers
  pub lines : IsOverlapText m n (Some (start_after packed before)) is_first text
  pub counts : counted ≡ Refused

-- the text of a message that is accepted: it uses no word twice, or the first overlap is explained
abbrev pub ReportsExclusivenessLines : Bool → ℕ → ℕ → ℕ → Reports
ReportsExclusivenessLines packed before = OrOverlap (ReportsOverlapLines packed before) ReportsAccepted

-- the text of `explain` over an input that is packed or not, with `--canonical` or without it
abbrev pub ReportsExplainedUnder : Bool → Bool → Demands → ℕ → ℕ → PlacedReports
ReportsExplainedUnder packed canonical demands = OrFaultLines packed canonical demands (λ before. ReportsAccepted)

-- the text of `explain --exclusive`
abbrev pub ReportsExplainedExclusiveUnder : Bool → Bool → Demands → ℕ → ℕ → PlacedReports
ReportsExplainedExclusiveUnder packed canonical demands = OrFaultLines packed canonical demands (ReportsExclusivenessLines packed)
