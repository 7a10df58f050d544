-- The JSON object that may be written of a message (profile).
use Rattle.std.specs.Prelude.{Bool, IsTrue, List, codes, false, if◌then◌else◌, ℕ, ◌↔◌, ◌≡◌, ◌⊎◌}
use Rattle.cap_spec.specs.Copies.{IsCanonical}
use Rattle.cap_spec.specs.Denoting.{Denotes}
use Rattle.cap_spec.specs.Canonical.{trim}
use Rattle.cap_spec.specs.Paths.{IsFirstCap}
use Rattle.cap_spec.specs.SpecNames.{IsFirstOverlap, strict_verdict}
use Rattle.cap_spec.specs.Texts.{accepted, refused}
use Rattle.cap_spec.specs.Tree.{Tree, has_cap}
use Rattle.cap_spec.specs.declared.StrictRefusal.{StrictRefusal}
use Rattle.cap_vet.specs.VetNames.{IsDemandFault, depth_of, words_of}
use Rattle.cap_walk.specs.Reports.{IsAccepted}
use Rattle.cap_walk.specs.declared.demands.Demands.{Demands}
use Rattle.cap_walk.specs.declared.limits.Limits.{Limits}
use Rattle.cap_walk.specs.declared.report.Report.{Report}
use Rattle.cap_text.specs.JsonLines.{check_json, hash_json, no_form_json, verdict_json}
use Rattle.cap_run.specs.Demanding.{OrOverlap, OrRefused}
use Rattle.cap_run.specs.Hashing.{hash_of}
use Rattle.cap_run.specs.Reporting.{Reports}
use Rattle.cap_run.specs.declared.engines.stream.Counted.{Counted}
use Rattle.cap_run.specs.declared.engines.stream.Counted.TheVariants.{Accepted, NotCanonical, Refused}

-- the object of message n if it is accepted, with the numbers of its tree
pub record ReportsAcceptedJson (words depth n : ℕ) (m : List (List ℕ)) (text : List ℕ)
    (counted : Counted) : Type 0 where
  pub report : Report
  pub is_accepted : IsAccepted m words depth report
  pub line : text ≡ verdict_json n (accepted report.charge report.depth report.pointers report.caps)
  pub counts : counted ≡ Accepted

-- if it is accepted and some word is used twice, with the first pointer that overlaps
pub record ReportsOverlapJson (words depth n : ℕ) (m : List (List ℕ)) (text : List ℕ)
    (counted : Counted) : Type 0 where
  pub report : Report
  pub is_accepted : IsAccepted m words depth report
  pub segment : ℕ
  pub word : ℕ
  pub pointers : ℕ
  pub is_first : IsFirstOverlap m segment word pointers
  pub line : text ≡ verdict_json n (refused (codes "Overlap") segment word pointers)
  pub counts : counted ≡ Refused

-- that of a message that is accepted: it uses no word twice, or with the first overlap
abbrev pub ReportsExclusivenessJson : ℕ → ℕ → Reports
ReportsExclusivenessJson = OrOverlap ReportsOverlapJson ReportsAcceptedJson

-- if it is accepted, by whether its words are its own canonical copy
pub record ReportsCheckedJson (words depth n : ℕ) (m : List (List ℕ)) (text : List ℕ)
    (counted : Counted) : Type 0 where
  pub report : Report
  pub is_accepted : IsAccepted m words depth report
  pub canonical : Bool
  pub decides : IsTrue canonical ↔ IsCanonical m
  pub line : text ≡ check_json n canonical
  pub counts : counted ≡ (if canonical then Accepted else NotCanonical)

-- if it is accepted and its tree has no capability, with the hash of the trimmed tree
pub record ReportsHashJson (words depth n : ℕ) (m : List (List ℕ)) (text : List ℕ)
    (counted : Counted) : Type 0 where
  pub report : Report
  pub is_accepted : IsAccepted m words depth report
  pub tree : Tree
  pub charge : ℕ
  pub deepest : ℕ
  pub denotes : Denotes m 0 0 tree charge deepest
  pub no_caps : has_cap tree ≡ false
  pub line : text ≡ hash_json n (hash_of (trim tree))
  pub counts : counted ≡ Accepted

-- if it is accepted and has a capability, with the place of the first in preorder
pub record ReportsNoFormJson (words depth n : ℕ) (m : List (List ℕ)) (text : List ℕ)
    (counted : Counted) : Type 0 where
  pub report : Report
  pub is_accepted : IsAccepted m words depth report
  pub segment : ℕ
  pub word : ℕ
  pub is_first : IsFirstCap m segment word
  pub line : text ≡ no_form_json n segment word
  pub counts : counted ≡ NotCanonical

-- one of the two
abbrev pub ReportsHashedJson : ℕ → ℕ → Reports
ReportsHashedJson words depth n m text counted =
    ReportsHashJson words depth n m text counted ⊎ ReportsNoFormJson words depth n m text counted

-- the object of message n if it doesn't meet the demands, with the first reason
pub record ReportsFaultJson (demands : Demands) (words depth n : ℕ) (m : List (List ℕ)) (text : List ℕ)
    (counted : Counted) : Type 0 where
  pub fault : StrictRefusal
  pub is_fault : IsDemandFault demands m words depth fault
  pub line : text ≡ verdict_json n (strict_verdict fault)
  pub counts : counted ≡ Refused

-- an object of a message that meets the demands, or that one, under the limits of the charge and of the depth
abbrev pub OrFaultJson : Demands → (ℕ → ℕ → Reports) → Limits → Reports
OrFaultJson demands reports limits = OrRefused demands ReportsFaultJson reports (words_of limits) (depth_of limits)
