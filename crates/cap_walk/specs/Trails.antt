-- What a walk in preorder has seen of a message, and what it still has to look at (profile).
use Rattle.std.specs.Prelude.{List, [], suc, zero, ℕ, ⊤, ◌++◌, ◌+◌, ◌<◌, ◌∷◌, ◌≡◌, ◌⊎◌}
use Rattle.cap_spec.specs.Lists.{IsOneOf}
use Rattle.cap_spec.specs.Paths.{Before, Reaches, number_of}
use Rattle.cap_spec.specs.declared.Step.{Step}
use Rattle.cap_spec.specs.declared.Step.TheVariants.{Item, Ptr}

-- a pointer word that a path reaches: the path, its segment and word, and the level of what it leads to
pub record Ahead : Type 0 where
  pub path : List Step
  pub segment : ℕ
  pub word : ℕ
  pub level : ℕ

-- two paths differ at some step, and the first has the smaller number there
abbrev pub Apart : List Step → List Step → Type 0
Apart [] q = ⊥
Apart (x ∷ xs) [] = ⊥
Apart (x ∷ xs) (y ∷ ys) = (number_of x < number_of y) ⊎ ((x ≡ y) × Apart xs ys)

-- each is apart from the next
abbrev pub EachApart : List Ahead → Type 0
EachApart [] = ⊤
EachApart (a ∷ []) = ⊤
EachApart (a ∷ b ∷ rest) = Apart a.path b.path × EachApart (b ∷ rest)

-- the paths that were looked at, the last one first, each after the next in preorder
abbrev pub Falls : List (List Step) → Type 0
Falls [] = ⊤
Falls (p ∷ []) = ⊤
Falls (p ∷ q ∷ rest) = Before q p × Falls (q ∷ rest)

-- the last path that was looked at comes before the next one
abbrev pub Precedes : List (List Step) → List Ahead → Type 0
Precedes [] ahead = ⊤
Precedes (p ∷ seen) [] = ⊤
Precedes (p ∷ seen) (a ∷ ahead) = Before p a.path

-- each goes on from the base by a step and more
abbrev pub GoOnFrom : List Step → List Ahead → Type 0
GoOnFrom base [] = ⊤
GoOnFrom base (a ∷ rest) = ((x : Step) × (v : List Step) × (a.path ≡ base ++ x ∷ v)) × GoOnFrom base rest

-- a path goes on from one of these
abbrev pub IsUnder : List Step → List Ahead → Type 0
IsUnder q [] = ⊥
IsUnder q (a ∷ ahead) = ((rest : List Step) × (q ≡ a.path ++ rest)) ⊎ IsUnder q ahead

-- each is reached at its level
abbrev pub AreReached : List (List ℕ) → List Ahead → Type 0
AreReached m [] = ⊤
AreReached m (a ∷ ahead) = Reaches m a.path a.level a.segment a.word × AreReached m ahead

-- the n pointer words from t:b on, reached from base by the steps i, i + 1 and so on
abbrev pub row : List Step → ℕ → (ℕ → Step) → ℕ → ℕ → ℕ → ℕ → List Ahead
row base level step t b i zero = []
row base level step t b i (suc n) = record { path = base ++ step i ∷ []; segment = t; word = b; level = level } ∷ row base level step t (b + 1) (i + 1) n

-- the pointer words of n elements of ds data words and ps pointers from t:b on, the first of them element i
abbrev pub element_rows : List Step → ℕ → ℕ → ℕ → ℕ → ℕ → ℕ → ℕ → List Ahead
element_rows base level t b ds ps i zero = []
element_rows base level t b ds ps i (suc n) =
    row (base ++ Item i ∷ []) level Ptr t (b + ds) 0 ps ++ element_rows base level t (b + ds + ps) ds ps (i + 1) n

-- What was looked at and what is ahead make a walk in preorder: nothing that a path reaches is left out.
pub record IsTrail (m : List (List ℕ)) (seen : List (List Step)) (ahead : List Ahead) : Type 0 where
  pub falls : Falls seen
  pub precedes : Precedes seen ahead
  pub apart : EachApart ahead
  pub seen_reached : (q : List Step) → IsOneOf q seen → (level s w : ℕ) × Reaches m q level s w
  pub ahead_reached : AreReached m ahead
  pub complete : (q : List Step) (level s w : ℕ) → Reaches m q level s w → IsOneOf q seen ⊎ IsUnder q ahead
