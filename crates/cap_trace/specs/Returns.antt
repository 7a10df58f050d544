-- Where a path comes back to a pointer word that it has reached before (profile).
use Rattle.std.specs.Prelude.{List, None, Option, Some, length, take, ℕ, ◌++◌, ◌+◌, ◌∷◌, ◌≡◌, ◌≤◌}
use Rattle.cap_spec.specs.Paths.{Reaches, ReachesSpot, word}
use Rattle.cap_spec.specs.declared.Step.{Step}
use Rattle.cap_trace.specs.Branches.{last_spot, path_of}
use Rattle.cap_trace.specs.PointerNumbers.{IsTraceable}
use Rattle.cap_trace.specs.declared.branch.Branch.{Branch}
use Rattle.cap_trace.specs.declared.returning.Cycle.{Cycle}

-- The path goes on from a prefix that reaches the pointer word at s:w. What this word leads to has this level there.
pub record ComesFrom (m : List (List ℕ)) (path : List Step) (s w level : ℕ) : Type 0 where
  pub prefix : List Step
  pub step : Step
  pub rest : List Step
  pub goes_on : path ≡ prefix ++ step ∷ rest
  pub reached : Reaches m prefix level s w

-- the greatest such level, which is that of the longest such prefix, or none: there is no such prefix
abbrev pub IsReturn : List (List ℕ) → List Step → ℕ → ℕ → Option ℕ → Type 0
IsReturn m path s w None = (level : ℕ) → ¬ ComesFrom m path s w level
IsReturn m path s w (Some level) =
    ComesFrom m path s w level × ((other : ℕ) → ComesFrom m path s w other → other ≤ level)

-- The path ends at this pointer word, and has reached it before, for the last time at the earlier level.
pub record IsTwiceAt (m : List (List ℕ)) (path : List Step) (c : Cycle) : Type 0 where
  pub reached : Reaches m path c.to_level c.segment c.word
  pub returns : IsReturn m path c.segment c.word (Some c.from_level)

-- The path ends at a pointer word that it has reached before. None: it doesn't.
abbrev pub EndsOnCycle : List (List ℕ) → List Step → Option Cycle → Type 0
EndsOnCycle m path None = (c : Cycle) → ¬ IsTwiceAt m path c
EndsOnCycle m path (Some c) = IsTwiceAt m path c

-- The path begins with one that ends so.
pub record HasCycle (m : List (List ℕ)) (path : List Step) (c : Cycle) : Type 0 where
  pub part : List Step
  pub rest : List Step
  pub begins : path ≡ part ++ rest
  pub twice : IsTwiceAt m part c

-- the cycle of the longest such beginning, or none: the path reaches each pointer word once
abbrev pub IsLastCycle : List (List ℕ) → List Step → Option Cycle → Type 0
IsLastCycle m path None = (c : Cycle) → ¬ HasCycle m path c
IsLastCycle m path (Some c) =
    HasCycle m path c × ((other : Cycle) → HasCycle m path other → other.to_level ≤ c.to_level)

-- The traceable path of this number has this last cycle. None: it has none, or there is no such path.
abbrev pub ReportsCycle : List (List ℕ) → ℕ → ℕ → Option Cycle → Type 0
ReportsCycle m depth n None = (path : List Step) → IsTraceable m depth n path → IsLastCycle m path None
ReportsCycle m depth n (Some c) = (path : List Step) × IsTraceable m depth n path × IsLastCycle m path (Some c)

-- Each path over the first of these branches comes to the spot of the last of them, on the level after theirs.
abbrev pub IsDown : List (List ℕ) → List Branch → Type 0
IsDown m branches = (k : ℕ) → k ≤ length branches
    → ReachesSpot m (path_of (take k branches)) (k + 1) (last_spot (word 0 0) (take k branches))
