-- The JSON object that may be written of a message whose refusal is explained (profile).
use Rattle.std.specs.Prelude.{Bool, List, None, Option, Some, [], codes, false, true, ℕ, ◌++◌, ◌≡◌, ◌⊎◌}
use Rattle.cap_spec.specs.SpecNames.{IsFirstOverlap, refused, strict_verdict}
use Rattle.cap_spec.specs.declared.StrictRefusal.{StrictRefusal}
use Rattle.cap_vet.specs.VetNames.{IsDemandFault, Meets, depth_of, words_of, words_under}
use Rattle.cap_walk.specs.Reports.{IsAccepted}
use Rattle.cap_walk.specs.declared.demands.Demands.{Demands}
use Rattle.cap_walk.specs.declared.limits.Limits.{Limits}
use Rattle.cap_walk.specs.declared.report.Report.{Report}
use Rattle.cap_difference.specs.declared.difference.Difference.{Difference}
use Rattle.cap_explain.specs.Cycles.{IsFaultCycle}
use Rattle.cap_explain.specs.Explaining.{explanation, overlap_explanation}
use Rattle.cap_explain.specs.Meanings.{HasTrueReason, segment_named, word_named}
use Rattle.cap_trace.specs.NamedPaths.{fault_path}
use Rattle.cap_trace.specs.declared.returning.Cycle.{Cycle}
use Rattle.cap_text.specs.JsonLines.{accepted_json, explained_json, filter_member}
use Rattle.cap_run.specs.Demanding.{OrOverlap, OrRefused}
use Rattle.cap_run.specs.Differing.{IsDifference, counted_by, difference_members}
use Rattle.cap_run.specs.Explained.{filter_demands}
use Rattle.cap_run.specs.Reporting.{PlacedReports, Reports}
use Rattle.cap_run.specs.declared.engines.stream.Counted.{Counted}
use Rattle.cap_run.specs.declared.engines.stream.Counted.TheVariants.{Accepted, Refused}

-- the lines that explain a refusal, without its path and its numbers: the sentence depends on neither
abbrev pub plain_lines : List (List ℕ) → StrictRefusal → List ℕ
plain_lines m fault =
    explanation None m fault (record { words = 0; depth = 0; charge = None; cycle = None; has_table = true; start = None })

-- the reason that these lines give of a message that doesn't meet the demands, which is true of it
abbrev pub FaultReason : Demands → List (List ℕ) → ℕ → ℕ → StrictRefusal → Type 0
FaultReason demands m words depth fault = HasTrueReason m (words_under demands m words) depth
    (segment_named fault) (word_named fault) (plain_lines m fault)

-- The object of message n if it doesn't meet the demands: the first reason, with the path and the sentence. It has
-- the last cycle of the path exactly if a limit is passed there and the path has one.
pub record ReportsFaultExplained (demands : Demands) (words depth n : ℕ) (m : List (List ℕ)) (text : List ℕ)
    (counted : Counted) : Type 0 where
  pub fault : StrictRefusal
  pub is_fault : IsDemandFault demands m words depth fault
  pub reason : FaultReason demands m words depth fault
  pub cycle : Option Cycle
  pub is_cycle : IsFaultCycle demands m words depth fault is_fault cycle
  pub line : text ≡ explained_json n (strict_verdict fault) (fault_path demands m words depth fault is_fault)
      reason.sentence cycle
  pub counts : counted ≡ Refused

-- the member that says why filter, the guard and the libraries refuse a message under these limits
pub record IsFilterMember (words depth : ℕ) (m : List (List ℕ)) (member : List ℕ) : Type 0 where
  pub fault : StrictRefusal
  pub is_fault : IsDemandFault filter_demands m words depth fault
  pub reason : FaultReason filter_demands m words depth fault
  pub text : member ≡ filter_member (strict_verdict fault)
      (fault_path filter_demands m words depth fault is_fault) reason.sentence

-- this member, or nothing if they accept the message
abbrev pub IsMember : ℕ → ℕ → List (List ℕ) → List ℕ → Type 0
IsMember words depth m member = (Meets filter_demands m words depth × (member ≡ []))
    ⊎ IsFilterMember words depth m member

-- The object of message n if it is accepted within the charge `within`, with the numbers of its tree. Its
-- last member says why filter, the guard and the libraries refuse it within the charge `words`, if they do.
pub record ReportsAcceptedExplained (words within depth n : ℕ) (m : List (List ℕ)) (text : List ℕ)
    (counted : Counted) : Type 0 where
  pub report : Report
  pub is_accepted : IsAccepted m within depth report
  pub member : List ℕ
  pub is_member : IsMember words depth m member
  pub line : text ≡ accepted_json n report.charge report.depth report.pointers report.caps member
  pub counts : counted ≡ Accepted

-- The same with whether the message is canonical, and the first difference from its canonical copy.
pub record ReportsCanonicalExplained (words within depth n : ℕ) (m : List (List ℕ)) (text : List ℕ)
    (counted : Counted) : Type 0 where
  pub report : Report
  pub is_accepted : IsAccepted m within depth report
  pub found : Option Difference
  pub is_found : IsDifference m found
  pub member : List ℕ
  pub is_member : IsMember words depth m member
  pub line : text ≡ accepted_json n report.charge report.depth report.pointers report.caps
      (difference_members m found is_found ++ member)
  pub counts : counted ≡ counted_by found

-- the object of an accepted message, with that or without it
abbrev pub ReportsAcceptedObject : Bool → ℕ → ℕ → ℕ → Reports
ReportsAcceptedObject false = ReportsAcceptedExplained
ReportsAcceptedObject true = ReportsCanonicalExplained

-- the object of message n if it is accepted and some word is used twice, with the first pointer that overlaps
pub record ReportsOverlapExplained (within depth n : ℕ) (m : List (List ℕ)) (text : List ℕ)
    (counted : Counted) : Type 0 where
  pub report : Report
  pub is_accepted : IsAccepted m within depth report
  pub segment : ℕ
  pub word : ℕ
  pub pointers : ℕ
  pub is_first : IsFirstOverlap m segment word pointers
  pub reason : HasTrueReason m within depth segment word (overlap_explanation None m None segment word)
  pub line : text ≡ explained_json n (refused (codes "Overlap") segment word pointers) (Some is_first.path)
      reason.sentence None
  pub counts : counted ≡ Refused

-- that of a message that is accepted: it uses no word twice, or with the first overlap
abbrev pub ReportsExclusivenessExplained : Bool → ℕ → ℕ → ℕ → Reports
ReportsExclusivenessExplained canonical words = OrOverlap ReportsOverlapExplained (ReportsAcceptedObject canonical words)

-- an object of a message that meets the demands, or that of one that doesn't, under these limits and
-- wherever it begins
abbrev pub OrFaultExplained : Demands → (ℕ → ℕ → ℕ → Reports) → Limits → PlacedReports
OrFaultExplained demands reports limits before =
    OrRefused demands ReportsFaultExplained (reports (words_of limits)) (words_of limits) (depth_of limits)
