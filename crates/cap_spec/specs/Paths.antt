-- Where the steps of a path lead in a message, and at what level (profile).
use Rattle.std.specs.Prelude.{List, [], length, ℕ, ⊤, ◌*◌, ◌+◌, ◌<◌, ◌∷◌, ◌≡◌, ◌⊎◌}
use Rattle.cap_spec.specs.Denoting.{Finds, FindsKind, element_levels}
use Rattle.cap_spec.specs.Following.{HasTag, Leads, extra, to_cap, to_null}
use Rattle.cap_spec.specs.Lists.{IsOneOf}
use Rattle.cap_spec.specs.Messages.{HasWord}
use Rattle.cap_spec.specs.Pointers.{extent}
use Rattle.cap_spec.specs.declared.Kind.TheVariants.{Pointers, Struct, Structs}
use Rattle.cap_spec.specs.declared.Step.{Step}
use Rattle.cap_spec.specs.declared.Step.TheVariants.{Item, Ptr}

-- Where a node is: at a pointer word, or at an element of a struct list (its segment, its start,
-- its sizes).
pub data Spot : Type 0 where
  word : ℕ → ℕ → Spot
  element : ℕ → ℕ → ℕ → ℕ → Spot

-- One step leads from one spot to another.
abbrev pub StepsTo : List (List ℕ) → Spot → Step → Spot → Type 0
StepsTo m (word s w) (Ptr i) spot =
    (k t b q tag ds ps : ℕ) × FindsKind m s w (Struct ds ps) k t b q tag × (i < ps) × (spot ≡ word t (b + ds + i))
StepsTo m (word s w) (Item i) spot =
    ((k t b q tag n : ℕ) × FindsKind m s w (Pointers n) k t b q tag × (i < n) × (spot ≡ word t (b + i)))
    ⊎ ((k t b q tag n ds ps : ℕ) × FindsKind m s w (Structs n ds ps) k t b q tag × (i < n)
    × (spot ≡ element t (b + 1 + i * (ds + ps)) ds ps))
StepsTo m (element t b ds ps) (Ptr i) spot = (i < ps) × (spot ≡ word t (b + ds + i))
StepsTo m (element t b ds ps) (Item i) spot = ⊥

-- a pointer word counts one level, an element what element_levels says
abbrev pub level_of : Spot → ℕ
level_of (word s w) = 1
level_of (element t b ds ps) = element_levels 1

-- The path leads from the first spot to the second, n levels below it: each spot that it arrives at counts level_of.
abbrev pub PathLeads : List (List ℕ) → Spot → List Step → ℕ → Spot → Type 0
PathLeads m a [] n b = (n ≡ 0) × (b ≡ a)
PathLeads m a (step ∷ path) n b =
    (mid : Spot) × (n' : ℕ) × StepsTo m a step mid × PathLeads m mid path n' b × (n ≡ level_of mid + n')

-- The path from the root comes to this spot, at this level, whether or not the pointer at the spot
-- can be followed.
abbrev pub ReachesSpot : List (List ℕ) → List Step → ℕ → Spot → Type 0
ReachesSpot m path level spot =
    (root n : ℕ) × HasWord m 0 0 root × PathLeads m (word 0 0) path n spot × (level ≡ 1 + n)

-- The path reaches the pointer word at s:w.
abbrev pub Reaches : List (List ℕ) → List Step → ℕ → ℕ → ℕ → Type 0
Reaches m path level s w = ReachesSpot m path level (word s w)

-- the pointer at s:w can be followed, which costs this many words
abbrev pub Costs : List (List ℕ) → ℕ → ℕ → ℕ → Type 0
Costs m s w cost =
    Leads m s w cost to_null
    ⊎ ((i : ℕ) × Leads m s w cost (to_cap i))
    ⊎ ((k t b q tag : ℕ) × Finds m s w k t b q × HasTag m t b q tag × (cost ≡ k + extent q + extra q tag))

abbrev pub number_of : Step → ℕ
number_of (Ptr i) = i
number_of (Item i) = i

-- preorder of paths: a beginning comes first, else the smaller number at the first step that differs
abbrev pub Before : List Step → List Step → Type 0
Before p [] = ⊥
Before [] (y ∷ ys) = Unit {0}
Before (x ∷ xs) (y ∷ ys) = (number_of x < number_of y) ⊎ ((x ≡ y) × Before xs ys)

-- P holds of this path, and of none before it in preorder.
pub record IsFirst (P : List Step → Type 0) (path : List Step) : Type 0 where
  pub holds : P path
  pub first : (other : List Step) → Before other path → ¬ P other

abbrev pub Rises : List (List Step) → Type 0
Rises [] = ⊤
Rises (p ∷ []) = ⊤
Rises (p ∷ q ∷ ps) = Before p q × Rises (q ∷ ps)

-- the paths to pointer words up to p, in preorder
pub record IsTour (m : List (List ℕ)) (p : List Step) (tour : List (List Step)) : Type 0 where
  pub rising : Rises tour
  pub reached : (q : List Step) → IsOneOf q tour → (level s w : ℕ) × Reaches m q level s w
  pub all : (q : List Step) (level s w : ℕ) → Reaches m q level s w → (q ≡ p) ⊎ Before q p → IsOneOf q tour
  pub none_after : (q : List Step) → IsOneOf q tour → (q ≡ p) ⊎ Before q p

-- The path reaches the pointer word at s:w, which has this number in preorder. The root word has number 1.
pub record IsNumbered (m : List (List ℕ)) (path : List Step) (s w number : ℕ) : Type 0 where
  pub level : ℕ
  pub tour : List (List Step)
  pub reached : Reaches m path level s w
  pub is_tour : IsTour m path tour
  pub count : number ≡ length tour

-- What is at a spot: the object that its pointer finds, or the element, as segment, start and
-- words.
abbrev pub HasPlace : List (List ℕ) → Spot → ℕ → ℕ → ℕ → Type 0
HasPlace m (word s w) t b n = (k q : ℕ) × Finds m s w k t b q × (n ≡ extent q)
HasPlace m (element t' b' ds ps) t b n = (t ≡ t') × (b ≡ b') × (n ≡ ds + ps)

-- the place of a path
abbrev pub IsPlace : List (List ℕ) → List Step → ℕ → ℕ → ℕ → Type 0
IsPlace m path t b n = (level : ℕ) × (spot : Spot) × ReachesSpot m path level spot × HasPlace m spot t b n

-- The path reaches a pointer word that leads to a capability.
abbrev pub ReachesCap : List (List ℕ) → List Step → Type 0
ReachesCap m path = (level s w k index : ℕ) × Reaches m path level s w × Leads m s w k (to_cap index)

-- The pointer word at s:w is the first in preorder that leads to a capability.
pub record IsFirstCap (m : List (List ℕ)) (s w : ℕ) : Type 0 where
  pub path : List Step
  pub level : ℕ
  pub reached : Reaches m path level s w
  pub first : IsFirst (ReachesCap m) path
