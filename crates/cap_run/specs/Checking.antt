-- What may be written of a message that is checked (profile).
use Rattle.std.specs.Prelude.{Bool, IsTrue, List, if◌then◌else◌, ℕ, ◌↔◌, ◌≡◌}
use Rattle.cap_spec.specs.Copies.{IsCanonical}
use Rattle.cap_spec.specs.Texts.{check_text}
use Rattle.cap_walk.specs.Reports.{IsAccepted}
use Rattle.cap_walk.specs.declared.report.Report.{Report}
use Rattle.cap_run.specs.declared.engines.stream.Counted.{Counted}
use Rattle.cap_run.specs.declared.engines.stream.Counted.TheVariants.{Accepted, NotCanonical}

-- the text of message n if it is accepted, by whether its words are its own canonical copy
pub record ReportsChecked (words depth n : ℕ) (m : List (List ℕ)) (text : List ℕ)
    (counted : Counted) : Type 0 where
  pub report : Report
  pub is_accepted : IsAccepted m words depth report
  pub canonical : Bool
  pub decides : IsTrue canonical ↔ IsCanonical m
  pub line : text ≡ check_text n canonical
  pub counts : counted ≡ (if canonical then Accepted else NotCanonical)
