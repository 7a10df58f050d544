-- Which children are left, from the last one down.
use Rattle.cap_spec.specs.Denoting.{places}
use Rattle.cap_spec.specs.Tree.{none}
use Rattle.cap_spec.proofs.Lemmas.{children_needed_le, each_charged, length-places}
use Rattle.cap_spec.proofs.ProofNames.{Bool, List, Some, arith, false, if◌then◌else◌, max, suc, true, zero, ℕ, ◌+◌, ◌-◌}
use Rattle.cap_spec.proofs.ProofNames.{◌<◌, ◌==◌, ◌∙◌, ◌≡◌, ◌≤◌, ◌⊎◌, eqb_tells, same_Some, children_needed, is_null}
use Rattle.cap_spec.proofs.ProofNames.{DenoteEach, Denotes, Tree, Trees, more, tree_at, tree_count, rules}
use Rattle.cap_spec.proofs.Trees.OneTree.{cons_parts}
use Rattle.cap_canon.proofs.Needed.{later_needed, later_zero}

-- the first of several words in a row, and the others
pub record Row (m : List (List ℕ)) (t b n : ℕ) (x : Tree) (xs : Trees) (c d : ℕ) : Type 0 where
  pub others : ℕ
  pub c1 : ℕ
  pub d1 : ℕ
  pub c2 : ℕ
  pub d2 : ℕ
  pub many : n ≡ suc others
  pub first : Denotes m t b x c1 d1
  pub rest : DenoteEach m (places t (b + 1) others) xs c2 d2
  pub depth : d ≡ max d1 d2

pub row_parts : (m : List (List ℕ)) (t b n : ℕ) (x : Tree) (xs : Trees) (c d : ℕ) → DenoteEach m (places t b n) (more x xs) c d → Row m t b n x xs c d
row_parts m t b h x xs c d k = search (rules, cons_parts)

-- the tree of the word at a place of the row
pub child_at : (m : List (List ℕ)) (t b n : ℕ) (ts : Trees) (c d i : ℕ) → DenoteEach m (places t b n) ts c d → i < n
    → (u : Tree) × (c' d' : ℕ) × (tree_at ts i ≡ Some u) × Denotes m t (b + i) u c' d'
child_at m t b zero none c d i h lt = absurd (omega (arith, lt))
child_at m t b (suc n) none c d i h lt = absurd (cc h.0)
child_at m t b n (more x xs) c d zero h lt =
    let r = row_parts m t b n x xs c d h in
    let e : b ≡ b + 0 = omega arith in search rules
child_at m t b n (more x xs) c d (suc i) h lt =
    let r = row_parts m t b n x xs c d h in search (rules, child_at m t (b + 1) r.others xs r.c2 r.d2 i r.rest (omega (arith, lt, r.many)))

-- a row has as many trees as words
pub row_count : (m : List (List ℕ)) (t b n : ℕ) (ts : Trees) (c d : ℕ) → DenoteEach m (places t b n) ts c d → tree_count ts ≡ n
row_count m t b n ts c d h = (each_charged m (places t b n) ts c d h).0 ∙ length-places t b n

-- no more are needed than there are
pub row_needed : (m : List (List ℕ)) (t b n : ℕ) (ts : Trees) (c d : ℕ) → DenoteEach m (places t b n) ts c d → children_needed ts ≤ n
row_needed m t b n ts c d h = omega (arith, row_count m t b n ts c d h, children_needed_le ts)

-- a child that isn't null is needed
first_child : (n : ℕ) (b : Bool) → b ≡ false → (((n == 0) ≡ true) × (n ≡ 0)) ⊎ (((n == 0) ≡ false) × (n ≡ 0 → ⊥))
    → 1 ≤ (if n == 0 then (if b then 0 else 1) else suc n)
first_child n b e h = search rules

pub child_past : (ts : Trees) (i : ℕ) (u : Tree) → tree_at ts i ≡ Some u → is_null u ≡ false → suc i ≤ children_needed ts
child_past (more t ts) (suc i) u e f = search (rules, later_needed, eqb_tells, child_past ts i u e f)
child_past ts i u e f = search (rules, first_child, same_Some, eqb_tells)

-- and a null that is last of those needed isn't
first_null : (n : ℕ) (b : Bool) → b ≡ true → (((n == 0) ≡ true) × (n ≡ 0)) ⊎ (((n == 0) ≡ false) × (n ≡ 0 → ⊥))
    → (if n == 0 then (if b then 0 else 1) else suc n) ≤ 1
    → (if n == 0 then (if b then 0 else 1) else suc n) ≤ 0
first_null n b e k h = search rules

one_child : (b : Bool) → (if b then 0 else 1) ≤ 1
one_child h = search rules

pub child_not : (ts : Trees) (i : ℕ) (u : Tree) → tree_at ts i ≡ Some u → is_null u ≡ true → children_needed ts ≤ suc i → children_needed ts ≤ i
child_not (more t ts) (suc i) u e f h = search (rules, later_zero, one_child, eqb_tells, child_not ts i u e f)
child_not ts i u e f h = search (rules, first_null, same_Some, eqb_tells)

-- the child looked at is needed, so that nothing below it is cut
pub child_here : (m : List (List ℕ)) (t b n left least : ℕ) (z : Bool) (ts : Trees) (c d : ℕ) → least < left → left ≤ n → DenoteEach m (places t b n) ts c d
    → ((u : Tree) (c' d' : ℕ) → Denotes m t (b + (left - 1)) u c' d' → z ≡ is_null u) → z ≡ false → children_needed ts ≤ left
    → left ≡ max least (children_needed ts)
child_here m t b n left least z ts c d lt le h is other most =
    let k = child_at m t b n ts c d (left - 1) h (omega (arith, lt, le)) in search (rules, child_past)

-- and one that is null isn't
pub child_below : (m : List (List ℕ)) (t b n left least : ℕ) (z : Bool) (ts : Trees) (c d : ℕ) → least < left → left ≤ n → DenoteEach m (places t b n) ts c d
    → ((u : Tree) (c' d' : ℕ) → Denotes m t (b + (left - 1)) u c' d' → z ≡ is_null u) → z ≡ true → children_needed ts ≤ left → children_needed ts ≤ left - 1
child_below m t b n left least z ts c d lt le h is null_z most =
    let k = child_at m t b n ts c d (left - 1) h (omega (arith, lt, le)) in search (rules, child_not)
