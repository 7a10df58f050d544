-- What a message means: a finite tree (standard: Objects).
use Rattle.std.specs.List.{AllByRecursion}
use Rattle.std.specs.Prelude.{Bool, List, None, Option, Some, [], length, not, option_and_then, suc, zero, ℕ, ⊤, ◌+◌}
use Rattle.std.specs.Prelude.{◌<◌, ◌==◌, ◌^◌, ◌∷◌, ◌≡◌}
use Rattle.cap_spec.specs.Pointers.{element_bits}
use Rattle.cap_spec.specs.Words.{IsWord}
use Rattle.cap_spec.specs.declared.Step.{Step}
use Rattle.cap_spec.specs.declared.Step.TheVariants.{Item, Ptr}

mutual
  pub data Tree : Type 0 where
    null : Tree
    cap : ℕ → Tree
    -- data words, children
    struct : List ℕ → Trees → Tree
    -- code, values
    scalars : ℕ → List ℕ → Tree
    pointers : Trees → Tree
    -- data words and children of each element, and the elements, each a struct
    structs : ℕ → ℕ → Trees → Tree

  pub data Trees : Type 0 where
    none : Trees
    more : Tree → Trees → Trees

abbrev pub tree_count : Trees → ℕ
tree_count none = 0
tree_count (more t ts) = suc (tree_count ts)

abbrev pub tree_at : Trees → ℕ → Option Tree
tree_at none i = None
tree_at (more t ts) zero = Some t
tree_at (more t ts) (suc i) = tree_at ts i

-- where one step leads in a tree
abbrev pub part_at : Tree → Step → Option Tree
part_at (struct words ts) (Ptr i) = tree_at ts i
part_at (pointers ts) (Item i) = tree_at ts i
part_at (structs d p es) (Item i) = tree_at es i
part_at _ _ = None

-- the node at a path
abbrev pub node_at : Tree → List Step → Option Tree
node_at t [] = Some t
node_at t (step ∷ path) = option_and_then (λ u. node_at u path) (part_at t step)

-- counts over the whole tree
abbrev mutual
  -- the children at all nodes
  pub child_count : Tree → ℕ
  child_count null = 0
  child_count (cap i) = 0
  child_count (struct words ts) = tree_count ts + child_counts ts
  child_count (scalars c vs) = 0
  child_count (pointers ts) = tree_count ts + child_counts ts
  child_count (structs d p es) = child_counts es

  pub child_counts : Trees → ℕ
  child_counts none = 0
  child_counts (more t ts) = child_count t + child_counts ts

abbrev pub pointer_count : Tree → ℕ
pointer_count t = 1 + child_count t

abbrev mutual
  pub cap_count : Tree → ℕ
  cap_count null = 0
  cap_count (cap i) = 1
  cap_count (struct words ts) = cap_counts ts
  cap_count (scalars c vs) = 0
  cap_count (pointers ts) = cap_counts ts
  cap_count (structs d p es) = cap_counts es

  pub cap_counts : Trees → ℕ
  cap_counts none = 0
  cap_counts (more t ts) = cap_count t + cap_counts ts

-- some node is a capability
abbrev pub has_cap : Tree → Bool
has_cap t = not (cap_count t == 0)

abbrev mutual
  -- Its words are words, its values fit their elements, and the elements of a struct list have its sizes.
  pub IsTree : Tree → Type 0
  IsTree null = ⊤
  IsTree (cap i) = i < 2 ^ 32
  IsTree (struct words ts) = AllByRecursion IsWord words × AreTrees ts
  IsTree (scalars c vs) = (c < 6) × AllByRecursion (λ v. v < 2 ^ element_bits c) vs
  IsTree (pointers ts) = AreTrees ts
  IsTree (structs d p es) = AreElementTrees d p es

  pub AreTrees : Trees → Type 0
  AreTrees none = ⊤
  AreTrees (more t ts) = IsTree t × AreTrees ts

  -- structs of d data words and p children each
  pub AreElementTrees : ℕ → ℕ → Trees → Type 0
  AreElementTrees d p none = ⊤
  AreElementTrees d p (more (struct words ts) es) =
      AllByRecursion IsWord words × (length words ≡ d) × (tree_count ts ≡ p) × AreTrees ts × AreElementTrees d p es
  AreElementTrees d p (more _ es) = ⊥
