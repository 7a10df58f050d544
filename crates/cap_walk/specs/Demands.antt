-- What may be demanded of a message beside the limits (profile).
use Rattle.std.specs.Prelude.{IsTrue, List, false, if◌then◌else◌, ℕ}
use Rattle.cap_spec.specs.Accepting.{IsWithin}
use Rattle.cap_spec.specs.SpecNames.{IsRefused, IsStrict, unamplified}
use Rattle.cap_spec.specs.Strict.{IsStrictFault}
use Rattle.cap_spec.specs.declared.StrictRefusal.{StrictRefusal}
use Rattle.cap_spec.specs.declared.StrictRefusal.TheVariants.{ManySegments, Pointer, Refused}
use Rattle.cap_walk.specs.Reports.{IsAccepted}
use Rattle.cap_walk.specs.declared.demands.Demands.{Demands}
use Rattle.cap_walk.specs.declared.report.Report.{Report}

-- nothing is demanded
abbrev pub no_demands : Demands
no_demands = record { strict = false; unamplified = false }

-- the word limit under the demands: that of an unamplified message where this is demanded
abbrev pub words_under : Demands → List (List ℕ) → ℕ → ℕ
words_under demands m words = if demands.unamplified then unamplified m words else words

-- The message is accepted within this limit, and strict where this is demanded.
pub record Meets (demands : Demands) (m : List (List ℕ)) (words depth : ℕ) : Type 0 where
  pub within : IsWithin m (words_under demands m words) depth
  pub strict : IsTrue demands.strict → IsStrict m (words_under demands m words) depth

-- it meets the demands, and this is the report of it
abbrev pub IsMet : Demands → List (List ℕ) → ℕ → ℕ → Report → Type 0
IsMet demands m words depth report = IsAccepted m (words_under demands m words) depth report × Meets demands m words depth

-- why a message doesn't meet the demands: it is refused within this limit, or it is accepted, and isn't
-- strict where this is demanded
abbrev pub IsDemandFault : Demands → List (List ℕ) → ℕ → ℕ → StrictRefusal → Type 0
IsDemandFault demands m words depth (Refused refusal) = IsRefused m (words_under demands m words) depth refusal
IsDemandFault demands m words depth ManySegments =
    IsTrue demands.strict × IsStrictFault m (words_under demands m words) depth ManySegments
IsDemandFault demands m words depth (Pointer what s w pointers) =
    IsTrue demands.strict × IsStrictFault m (words_under demands m words) depth (Pointer what s w pointers)
