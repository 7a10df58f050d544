-- What comes of following a pointer word: exactly one thing (standard: Inter-Segment Pointers).
use Rattle.std.specs.Prelude.{List, ℕ, ◌≡◌}
use Rattle.cap_spec.specs.SpecNames.{Finds, Leads, Wrong, to_cap, to_null, HasWord}
use Rattle.cap_spec.specs.declared.Reason.{Reason}

-- a reason why it is refused; or, over some pads, null, a capability, or an object:
-- its segment, its start and the word that holds its shape
pub data Outcome : Type 0 where
  refused : Reason → Outcome
  null : ℕ → Outcome
  cap : ℕ → ℕ → Outcome
  object : ℕ → ℕ → ℕ → ℕ → Outcome

-- this comes of following the pointer word at s:w
abbrev pub ComesOf : List (List ℕ) → ℕ → ℕ → Outcome → Type 0
ComesOf m s w (refused v) = Wrong m s w v
ComesOf m s w (null k) = Leads m s w k to_null
ComesOf m s w (cap k i) = Leads m s w k (to_cap i)
ComesOf m s w (object k t b q) = Finds m s w k t b q

-- exactly one thing comes of each word of each message
abbrev pub OneOutcome : Type 0
OneOutcome = (m : List (List ℕ)) (s w p : ℕ) → HasWord m s w p →
    (outcome : Outcome) × ComesOf m s w outcome × ((other : Outcome) → ComesOf m s w other → other ≡ outcome)
