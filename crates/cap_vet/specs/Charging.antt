-- How far a path was followed in a message that needn't be vetted (profile).
use Rattle.std.specs.Prelude.{Bool, List, false, length, true, ℕ, ◌++◌, ◌+◌, ◌<◌, ◌∷◌, ◌≡◌, ◌≤◌}
use Rattle.cap_spec.specs.Paths.{element}
use Rattle.cap_spec.specs.SpecNames.{AreShallow, AreOnPath, ReachesSpot, Spot, StepsTo, word, CostOf}
use Rattle.cap_spec.specs.declared.Step.{Step}
use Rattle.cap_vet.specs.Finding.{IsFound}
use Rattle.cap_vet.specs.PathStrictness.{KnowsLaxOnPath}
use Rattle.cap_vet.specs.declared.nodes.charged.Arrival.{Arrival}

-- the deepest level that a path within the depth limit comes to
abbrev pub deepest_at : ℕ → Spot → ℕ
deepest_at depth (word s w) = depth + 1
deepest_at depth (element t b ds ps) = depth

-- The path comes to this spot. Following the pointers on it keeps to the limits, and costs the
-- words that were charged. The first of them that common readers reject is known.
pub record Arrives (m : List (List ℕ)) (words depth : ℕ) (path : List Step) (spot : Spot) (at : Arrival) : Type 0 where
  pub comes : ReachesSpot m path at.level spot
  pub found : IsFound m spot at.found
  pub ways : List (List Step)
  pub on_path : AreOnPath m path ways
  pub some : 0 < length ways
  pub costs : CostOf m ways at.consumed
  pub shallow : AreShallow m depth ways
  pub within : at.consumed ≤ words
  pub pointers : at.pointers ≡ length ways
  pub levels : at.level ≤ deepest_at depth spot
  pub few : at.pointers ≤ at.level
  pub lax : KnowsLaxOnPath m path ways at.lax

-- The path leads to nothing: its beginning arrives at something from which the next step leads to nothing.
pub record EndsEarly (m : List (List ℕ)) (words depth : ℕ) (path : List Step) (at : Arrival) : Type 0 where
  pub done : List Step
  pub step : Step
  pub rest : List Step
  pub spot : Spot
  pub whole : path ≡ done ++ step ∷ rest
  pub arrives : Arrives m words depth done spot at
  pub no_node : (b : Spot) → ¬ StepsTo m spot step b

-- something is at the end of the path, or nothing
abbrev pub EndsAt : List (List ℕ) → ℕ → ℕ → List Step → Arrival → Bool → Type 0
EndsAt m words depth path at true = (spot : Spot) × Arrives m words depth path spot at
EndsAt m words depth path at false = EndsEarly m words depth path at
