-- Where paths lead, as the laws of paths and verdicts say it (profile; standard: Objects).
use Rattle.std.specs.Prelude.{List, ℕ}
use Rattle.cap_spec.specs.SpecNames.{Finds, HasTag, Reaches}
use Rattle.cap_spec.specs.declared.Step.{Step}

-- the path reaches a pointer word
abbrev pub ReachesSome : List (List ℕ) → List Step → Type 0
ReachesSome m path = (level s w : ℕ) × Reaches m path level s w

-- It reaches one that leads to an object, whose shape is in the word q. The tag of a composite list is
-- the word before its elements.
abbrev pub ReachesObject : List (List ℕ) → List Step → ℕ → ℕ → ℕ → Type 0
ReachesObject m path level q tag = (s w k u b : ℕ) × Reaches m path level s w × Finds m s w k u b q
    × HasTag m u b q tag
