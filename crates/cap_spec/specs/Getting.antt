-- Following the pointers on a path up to the first fault, where a word counts each time (profile;
-- standard: Security Considerations).
use Rattle.std.specs.Prelude.{List, [], length, ℕ, ◌++◌, ◌+◌, ◌<◌, ◌∷◌, ◌≡◌, ◌≤◌, ◌⊎◌}
use Rattle.cap_spec.specs.Faults.{HasNoRoot, IsFirstReason}
use Rattle.cap_spec.specs.Lists.{IsOneOf}
use Rattle.cap_spec.specs.Paths.{Reaches, Rises}
use Rattle.cap_spec.specs.Verdicts.{CostOf, IsDeepAt}
use Rattle.cap_spec.specs.declared.Refusal.{Refusal}
use Rattle.cap_spec.specs.declared.Step.{Step}

-- none of these paths leads to an object past the depth limit
abbrev pub AreShallow : List (List ℕ) → ℕ → List (List Step) → Type 0
AreShallow m depth paths = (p : List Step) (level s w : ℕ) → IsOneOf p paths → Reaches m p level s w → ¬ IsDeepAt m depth s w level

-- one path begins another
abbrev pub IsStartOf : List Step → List Step → Type 0
IsStartOf q path = (rest : List Step) × (path ≡ q ++ rest)

-- the beginnings of a path that reach a pointer word, the shortest first
pub record AreOnPath (m : List (List ℕ)) (path : List Step) (ways : List (List Step)) : Type 0 where
  pub rising : Rises ways
  pub begin : (q : List Step) → IsOneOf q ways → IsStartOf q path
  pub reached : (q : List Step) → IsOneOf q ways → (level s w : ℕ) × Reaches m q level s w
  pub all : (q : List Step) (level s w : ℕ) → IsStartOf q path → Reaches m q level s w
      → IsOneOf q ways

-- The pointers on the path keep to the limits, and following them costs the words that are gone.
pub record Charges (m : List (List ℕ)) (before depth : ℕ) (path : List Step) (left : ℕ) : Type 0 where
  pub ways : List (List Step)
  pub on_path : AreOnPath m path ways
  -- the root among them
  pub some : 0 < length ways
  pub cost : ℕ
  pub costs : CostOf m ways cost
  pub shallow : AreShallow m depth ways
  pub consumed : left + cost ≡ before

-- The refusal names the pointer that a beginning of the path reaches: those before it on the path keep to the limits.
pub record IsFaultOnPath (m : List (List ℕ)) (words depth : ℕ) (path : List Step) (refusal : Refusal) : Type 0 where
  pub way : List Step
  pub begin : IsStartOf way path
  pub before : List (List Step)
  pub level : ℕ
  pub charge : ℕ
  pub reached : Reaches m way level refusal.segment refusal.word
  pub on_path : AreOnPath m way (before ++ way ∷ [])
  pub costs : CostOf m before charge
  pub within : charge ≤ words
  pub shallow : AreShallow m depth before
  pub reason : IsFirstReason m words depth charge refusal.segment refusal.word level refusal.reason
  pub pointers : refusal.pointers ≡ length (before ++ way ∷ [])

-- why a path is refused
abbrev pub IsRefusedOnPath : List (List ℕ) → ℕ → ℕ → List Step → Refusal → Type 0
IsRefusedOnPath m words depth path refusal = HasNoRoot m refusal ⊎ IsFaultOnPath m words depth path refusal
