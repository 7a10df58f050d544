-- The paths of a message by the numbers of their pointer words in preorder (profile).
use Rattle.std.specs.Prelude.{List, ℕ}
use Rattle.cap_spec.specs.Paths.{IsNumbered}
use Rattle.cap_spec.specs.SpecNames.{Wrong, Before, Reaches, IsDeepAt}
use Rattle.cap_spec.specs.declared.Reason.{Reason}
use Rattle.cap_spec.specs.declared.Step.{Step}

-- The pointer at s:w can be followed, and leads to no object past the depth limit.
abbrev pub PassesAt : List (List ℕ) → ℕ → ℕ → ℕ → ℕ → Type 0
PassesAt m depth s w level = ((v : Reason) → ¬ Wrong m s w v) × ¬ IsDeepAt m depth s w level

-- So is the pointer that the path reaches.
abbrev pub IsPassable : List (List ℕ) → ℕ → List Step → Type 0
IsPassable m depth path = (level s w : ℕ) → Reaches m path level s w → PassesAt m depth s w level

-- The path is number n, and each pointer before it in preorder is passable.
pub record IsTraceable (m : List (List ℕ)) (depth n : ℕ) (path : List Step) : Type 0 where
  pub segment : ℕ
  pub at : ℕ
  pub numbered : IsNumbered m path segment at n
  pub passable : (other : List Step) → Before other path → IsPassable m depth other
