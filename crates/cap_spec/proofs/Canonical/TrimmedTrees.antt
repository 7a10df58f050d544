-- A trimmed tree is a tree, and has the capabilities that it had.
use Rattle.cap_spec.specs.Tree.{none}
use Rattle.cap_spec.proofs.Bytes.Lists.{all_take}
use Rattle.cap_spec.proofs.Canonical.TrimmedMeasures.{children_needed_le, data_needed_le, none_left, tree_count-take_le}
use Rattle.cap_spec.proofs.Canonical.Trimming.{rest_below}
use Rattle.cap_spec.proofs.ProofNames.{ap, ap₂, arith, not, refl, suc, sym, zero, ℕ, ◌+◌, ◌==◌, ◌∙◌, ◌≡◌, ◌≤◌}
use Rattle.cap_spec.proofs.ProofNames.{children_needed, children_of, cut_elements, data_needed, data_of, take_trees}
use Rattle.cap_spec.proofs.ProofNames.{trim, trim_all, trim_elements, AreElementTrees, AreTrees, IsTree, Tree, Trees}
use Rattle.cap_spec.proofs.ProofNames.{cap, cap_count, cap_counts, has_cap, more, null, pointers, scalars, struct}
use Rattle.cap_spec.proofs.ProofNames.{structs, tree_count, IsWord, rules}

-- a prefix of trees
trees-take : (n : ℕ) (ts : Trees) → AreTrees ts → AreTrees (take_trees n ts)
trees-take (suc n) (more t ts) f = (f.0, trees-take n ts f.1)
trees-take n ts f = tt

-- elements cut to sizes that each of them has
cut_trees : (d p x y : ℕ) (es : Trees) → d ≤ x → p ≤ y → AreElementTrees x y es
    → AreElementTrees d p (cut_elements d p es)
cut_trees d p x y (more (struct words ts) es) hd hp f =
    search (rules, all_take, tree_count-take_le, trees-take, cut_trees d p x y es hd hp f.4)
cut_trees d p x y es hd hp f = search rules

-- no element needs more than its size
data_within : (d p : ℕ) (es : Trees) → AreElementTrees d p es → data_of es ≤ d
data_within d p none f = omega arith
data_within d p (more (struct words ts) es) f =
    let a = data_needed_le words in let r = data_within d p es f.4 in omega (arith, a, r, f.1)
data_within d p (more t es) f = absurd f

children_within : (d p : ℕ) (es : Trees) → AreElementTrees d p es → children_of es ≤ p
children_within d p (more (struct words ts) es) f = omega (arith, children_needed_le, children_within d p es f.4)
children_within d p es f = omega arith

-- as many children after each is trimmed
pub tree_count-trim_all : (ts : Trees) → tree_count (trim_all ts) ≡ tree_count ts
tree_count-trim_all none = refl
tree_count-trim_all (more t ts) = ap suc (tree_count-trim_all ts)

mutual
  -- a trimmed tree is a tree
  pub trimmed_is_tree : (t : Tree) → IsTree t → IsTree (trim t)
  trimmed_is_tree null f = tt
  trimmed_is_tree (cap i) f = f
  trimmed_is_tree (struct words ts) f = (
    all_take IsWord (data_needed words) words f.0,
    trees-take (children_needed (trim_all ts)) (trim_all ts) (trimmed_are_trees ts f.1),
  )
  trimmed_is_tree (scalars c vs) f = f
  trimmed_is_tree (pointers ts) f = trimmed_are_trees ts f
  trimmed_is_tree (structs d p es) f =
      let r : AreElementTrees d p (trim_elements es) = trimmed_are_elements d p es f in
      cut_trees (data_of (trim_elements es)) (children_of (trim_elements es)) d p (trim_elements es)
      (data_within d p (trim_elements es) r) (children_within d p (trim_elements es) r) r

  pub trimmed_are_trees : (ts : Trees) → AreTrees ts → AreTrees (trim_all ts)
  trimmed_are_trees none f = tt
  trimmed_are_trees (more t ts) f = (trimmed_is_tree t f.0, trimmed_are_trees ts f.1)

  pub trimmed_are_elements : (d p : ℕ) (es : Trees) → AreElementTrees d p es → AreElementTrees d p (trim_elements es)
  trimmed_are_elements d p (more (struct words ts) es) f =
      (f.0, f.1, tree_count-trim_all ts ∙ f.2, trimmed_are_trees ts f.3, trimmed_are_elements d p es f.4)
  trimmed_are_elements d p es f = search rules

-- trees of which none are needed have no capabilities
no_caps : (ts : Trees) → children_needed ts ≤ 0 → cap_counts ts ≡ 0
no_caps (more null ts) h = search (rules, none_left, no_caps ts)
no_caps ts h = search rules

-- where all that are needed are left, the rest have all capabilities
caps-take : (n : ℕ) (ts : Trees) → children_needed ts ≤ n → cap_counts (take_trees n ts) ≡ cap_counts ts
caps-take zero ts h = sym (no_caps ts h)
caps-take (suc n) none h = refl
caps-take (suc n) (more t ts) h = search (rules, rest_below, caps-take n ts)

caps-cut : (d p : ℕ) (es : Trees) → children_of es ≤ p → cap_counts (cut_elements d p es) ≡ cap_counts es
caps-cut d p none h = refl
caps-cut d p (more (struct words ts) es) h = omega (arith, caps-take, caps-cut d p es (omega (arith, h)))
caps-cut d p (more t es) h = ap (λ x. cap_count t + x) (caps-cut d p es h)

mutual
  -- a trimmed tree has as many capabilities
  pub cap_count-trim : (t : Tree) → cap_count (trim t) ≡ cap_count t
  cap_count-trim (struct words ts) = omega (arith, caps-take, cap_counts-trim_all ts)
  cap_count-trim (pointers ts) = cap_counts-trim_all ts
  cap_count-trim (structs d p es) = omega (arith, caps-cut, cap_counts-trim_elements es)
  cap_count-trim t = refl

  pub cap_counts-trim_all : (ts : Trees) → cap_counts (trim_all ts) ≡ cap_counts ts
  cap_counts-trim_all none = refl
  cap_counts-trim_all (more t ts) = ap₂ (λ x y. x + y) (cap_count-trim t) (cap_counts-trim_all ts)

  pub cap_counts-trim_elements : (es : Trees) → cap_counts (trim_elements es) ≡ cap_counts es
  cap_counts-trim_elements none = refl
  cap_counts-trim_elements (more (struct words ts) es) =
      ap₂ (λ x y. x + y) (cap_counts-trim_all ts) (cap_counts-trim_elements es)
  cap_counts-trim_elements (more t es) = ap (λ x. cap_count t + x) (cap_counts-trim_elements es)

-- it has one where it had one
pub has_cap-trim : (t : Tree) → has_cap (trim t) ≡ has_cap t
has_cap-trim t = ap (λ n. not (n == 0)) (cap_count-trim t)
