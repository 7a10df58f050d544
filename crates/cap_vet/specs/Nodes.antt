-- What a node of an accepted message keeps (profile).
use Rattle.std.specs.Prelude.{List, ℕ, ◌≤◌}
use Rattle.cap_spec.specs.SpecNames.{Denotes, most_depth, ReachesSpot, Spot, Tree}
use Rattle.cap_spec.specs.declared.Step.{Step}

-- The root denotes a tree within the greatest depth, and a path from it comes to the spot.
pub record IsNode (m : List (List ℕ)) (spot : Spot) : Type 0 where
  pub tree : Tree
  pub charge : ℕ
  pub depth : ℕ
  pub denotes : Denotes m 0 0 tree charge depth
  pub shallow : depth ≤ most_depth
  pub path : List Step
  pub level : ℕ
  pub comes : ReachesSpot m path level spot
