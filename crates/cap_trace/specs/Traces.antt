-- How a search for the pointer word of a number goes on, and what it comes to (profile).
use Rattle.std.specs.Prelude.{List, None, Option, Some, [], drop, length, map, ℕ, ⊤, ◌++◌, ◌+◌, ◌<◌, ◌∷◌, ◌≡◌, ◌≤◌, ◌⊎◌}
use Rattle.cap_spec.specs.Messages.{segment_of}
use Rattle.cap_spec.specs.Paths.{IsTour, word}
use Rattle.cap_spec.specs.SpecNames.{Wrong, Before, IsDeepAt}
use Rattle.cap_spec.specs.declared.Reason.{Reason}
use Rattle.cap_spec.specs.declared.Step.{Step}
use Rattle.cap_walk.specs.Trails.{Ahead, IsTrail}
use Rattle.cap_trace.specs.Branches.{AreBranches, AreSteps, IsBranch, StepsFrom, last_spot, path_of, rest_from, rest_of}
use Rattle.cap_trace.specs.PointerNumbers.{IsPassable, IsTraceable, PassesAt}
use Rattle.cap_trace.specs.declared.below.Below.{Below}
use Rattle.cap_trace.specs.declared.below.Below.TheVariants.{Blocked, Object}
use Rattle.cap_trace.specs.declared.branch.Branch.{Branch}
use Rattle.cap_trace.specs.declared.branch.WordPlace.{WordPlace}

-- the pointer words of an object of this level, if it has some
abbrev pub words_of_object : List Step → ℕ → Option Branch → List Ahead
words_of_object base level None = []
words_of_object base level (Some f) = rest_of base level f

-- It is a branch with words left, if there is one.
abbrev pub OptionBranch : List (List ℕ) → ℕ → ℕ → Option Branch → Type 0
OptionBranch m depth level None = ⊤
OptionBranch m depth level (Some f) = IsBranch m depth level f × (f.taken < f.count)

-- The pointer can't be followed, or leads to an object past the depth limit.
abbrev pub IsBlockedAt : List (List ℕ) → ℕ → ℕ → ℕ → ℕ → Type 0
IsBlockedAt m depth s w level = ((v : Reason) × Wrong m s w v) ⊎ IsDeepAt m depth s w level

-- Its steps lead from the pointer word at s:w, if there is a branch.
abbrev pub OptionSteps : List (List ℕ) → ℕ → ℕ → Option Branch → Type 0
OptionSteps m s w None = ⊤
OptionSteps m s w (Some f) = StepsFrom m (word s w) f

-- The pointer at s:w passes. Then its object's words are ahead, and after them the others. Or the search can't go on.
abbrev pub GoesBelow : List (List ℕ) → ℕ → ℕ → ℕ → ℕ → Below → Type 0
GoesBelow m depth s w level (Object below) =
    PassesAt m depth s w level
    × OptionBranch m depth level below
    × OptionSteps m s w below
    × ((seen : List (List Step)) (path : List Step) (ahead : List Ahead)
    → IsTrail m seen (record { path = path; segment = s; word = w; level = level } ∷ ahead)
    → IsTrail m (path ∷ seen) (words_of_object path level below ++ ahead))
GoesBelow m depth s w level Blocked = IsBlockedAt m depth s w level

-- the word after these steps, as a word ahead
abbrev pub word_ahead : List Branch → WordPlace → Ahead
word_ahead branches here =
    record { path = path_of branches; segment = here.segment; word = here.at; level = length branches + 1 }

-- The search has come to this word over these steps. It is number n in preorder, and each pointer before it passes.
pub record HasCome (m : List (List ℕ)) (depth n : ℕ) (branches : List Branch) (here : WordPlace) : Type 0 where
  pub seen : List (List Step)
  pub trail : IsTrail m seen (word_ahead branches here ∷ rest_from [] 1 branches)
  pub tour : List (List Step)
  pub is_tour : IsTour m (path_of branches) tour
  pub number : n ≡ length tour
  pub stack : AreBranches m depth 1 branches
  pub steps : AreSteps m (word 0 0) branches
  pub last : last_spot (word 0 0) branches ≡ word here.segment here.at
  pub exists : here.segment < length m
  pub inside : here.at < length (segment_of m here.segment)
  pub passable : (q : List Step) → Before q (path_of branches) → IsPassable m depth q

-- The search has looked at the word of number n. What these branches have left comes after it, and each pointer up to it passes.
pub record HasPassed (m : List (List ℕ)) (depth n : ℕ) (branches : List Branch) : Type 0 where
  pub path : List Step
  pub seen : List (List Step)
  pub trail : IsTrail m (path ∷ seen) (rest_from [] 1 branches)
  pub tour : List (List Step)
  pub is_tour : IsTour m path tour
  pub number : n ≡ length tour
  pub stack : AreBranches m depth 1 branches
  pub steps : AreSteps m (word 0 0) branches
  pub passable : (q : List Step) → (q ≡ path) ⊎ Before q path → IsPassable m depth q

-- no path of this number can be traced
abbrev pub IsMissing : List (List ℕ) → ℕ → ℕ → Type 0
IsMissing m depth n = (path : List Step) → ¬ IsTraceable m depth n path

-- The search goes on from the word of number n to the next one at this place. Or no path of a higher number can be traced.
abbrev pub Passes : List (List ℕ) → ℕ → ℕ → List Branch → Option WordPlace → Type 0
Passes m depth n branches (Some next) = HasCome m depth (n + 1) branches next
Passes m depth n branches None = (more : ℕ) → n < more → IsMissing m depth more

-- The path is at the start of the buffer, in a slot for each step. Or the buffer has too few slots, and is unchanged.
abbrev pub IsPut : {S : Type 0} → (Step → S) → List Step → List S → List S → Type 0
IsPut slot path old new =
    (length path ≤ length old → new ≡ map slot path ++ drop (length path) old) × (length old < length path → new ≡ old)

-- The traceable path of this number has `count` steps, and is written if it fits. Or there is none.
abbrev pub ReportsPath : {S : Type 0} → (Step → S) → List (List ℕ) → ℕ → ℕ → List S → Option ℕ → List S → Type 0
ReportsPath slot m depth n old (Some count) new =
    (path : List Step) × IsTraceable m depth n path × (count ≡ length path) × IsPut slot path old new
ReportsPath slot m depth n old None new = IsMissing m depth n × (new ≡ old)

-- This path is what is written.
abbrev pub GivesPath : {S : Type 0} → (Step → S) → List Step → List S → Option ℕ → List S → Type 0
GivesPath slot path old result new = (result ≡ Some (length path)) × IsPut slot path old new
