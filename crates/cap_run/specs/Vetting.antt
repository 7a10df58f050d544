-- What may be written of a message that is vetted (profile).
use Rattle.std.specs.Prelude.{List, codes, ℕ, ◌++◌, ◌≡◌}
use Rattle.cap_spec.specs.SpecNames.{IsFirstOverlap, refused, vet_text, Tree, node_at}
use Rattle.cap_spec.specs.Texts.{dump_text, get_text}
use Rattle.cap_spec.specs.declared.Step.{Step}
use Rattle.cap_walk.specs.Reports.{IsAccepted, IsReport}
use Rattle.cap_walk.specs.declared.report.Report.{Report}
use Rattle.cap_text.specs.Lines.{accepted_text}
use Rattle.cap_run.specs.declared.engines.stream.Counted.{Counted}
use Rattle.cap_run.specs.declared.engines.stream.Counted.TheVariants.{Accepted, Refused}

-- the line of message n if it is accepted, with the numbers of its tree
pub record ReportsAccepted (words depth n : ℕ) (m : List (List ℕ)) (text : List ℕ)
    (counted : Counted) : Type 0 where
  pub report : Report
  pub is_accepted : IsAccepted m words depth report
  pub line : text ≡ accepted_text n report
  pub counts : counted ≡ Accepted

-- if it is accepted and some word is used twice, with the first pointer that overlaps
pub record ReportsOverlap (words depth n : ℕ) (m : List (List ℕ)) (text : List ℕ)
    (counted : Counted) : Type 0 where
  pub report : Report
  pub is_accepted : IsAccepted m words depth report
  pub segment : ℕ
  pub word : ℕ
  pub pointers : ℕ
  pub is_first : IsFirstOverlap m segment word pointers
  pub line : text ≡ vet_text n (refused (codes "Overlap") segment word pointers)
  pub counts : counted ≡ Refused

-- the messages whose words are marked: those that are accepted
abbrev pub AllocatesMarks : ℕ → ℕ → List (List ℕ) → Type 0
AllocatesMarks words depth m = (report : Report) × IsAccepted m words depth report

-- the line of message n if it is accepted, with the numbers of its tree, and after it the whole
-- tree
pub record ReportsTree (words depth n : ℕ) (m : List (List ℕ)) (text : List ℕ)
    (counted : Counted) : Type 0 where
  pub report : Report
  pub tree : Tree
  pub is_report : IsReport m words depth report tree
  pub lines : text ≡ accepted_text n report ++ dump_text tree
  pub counts : counted ≡ Accepted

-- the tree's node at a path, or that there is none, if message n is accepted
pub record ReportsNode (words depth : ℕ) (path : List Step) (n : ℕ) (m : List (List ℕ))
    (text : List ℕ) (counted : Counted) : Type 0 where
  pub report : Report
  pub tree : Tree
  pub is_report : IsReport m words depth report tree
  pub lines : text ≡ get_text n (node_at tree path)
  pub counts : counted ≡ Accepted
