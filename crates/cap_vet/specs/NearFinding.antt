-- What was found by a look at one pointer word of a path (profile).
use Rattle.std.specs.Prelude.{List, ℕ, ◌≤◌, ◌⊎◌}
use Rattle.cap_spec.specs.SpecNames.{HasWord, Costs, word, IsDeepAt}
use Rattle.cap_ptr.specs.Rows.{FindsRow}
use Rattle.cap_ptr.specs.declared.near.Row.{Row}
use Rattle.cap_vet.specs.Finding.{IsFound}
use Rattle.cap_walk.specs.Looking.{IsNotLax}
use Rattle.cap_vet.specs.declared.nodes.found.Found.{Found}

-- The pointer word at s:w leads to this at this cost, within the words that are left and the depth limit. Common
-- readers accept it.
pub record FindsNear (m : List (List ℕ)) (left depth s w level : ℕ) (f : Found) (cost : ℕ) : Type 0 where
  pub found : IsFound m (word s w) f
  pub costs : Costs m s w cost
  pub within : cost ≤ left
  pub shallow : ¬ IsDeepAt m depth s w level
  pub strict : IsNotLax m s w

-- The word at s:w is null. Or it alone describes an object in its segment, which is within the words that are left and
-- the depth limit.
abbrev pub IsNearWithin : List (List ℕ) → ℕ → ℕ → ℕ → ℕ → ℕ → Type 0
IsNearWithin m left depth s w level = HasWord m s w 0
    ⊎ ((q : ℕ) × (r : Row) × HasWord m s w q × FindsRow m s w q r × (r.words ≤ left) × (level ≤ depth))
