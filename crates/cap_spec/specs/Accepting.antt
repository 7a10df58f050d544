-- When a message is accepted (profile; standard: Security Considerations).
use Rattle.std.specs.Prelude.{List, ℕ, ◌≤◌}
use Rattle.cap_spec.specs.Denoting.{Denotes}
use Rattle.cap_spec.specs.Tree.{Tree}

-- The root denotes this tree, and its charge and depth are within the limits.
pub record DenotesWithin (m : List (List ℕ)) (words depth : ℕ) (tree : Tree) (charge levels : ℕ) : Type 0 where
  pub denotes : Denotes m 0 0 tree charge levels
  pub few_words : charge ≤ words
  pub few_levels : levels ≤ depth

-- A message is accepted exactly if its root denotes some tree within the limits.
abbrev pub IsWithin : List (List ℕ) → ℕ → ℕ → Type 0
IsWithin m words depth = (tree : Tree) × (charge levels : ℕ) × DenotesWithin m words depth tree charge levels
