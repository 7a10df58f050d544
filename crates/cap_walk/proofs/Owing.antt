-- What the pointers of an object owe says what they denote.
use Rattle.cap_spec.proofs.ProofNames.{rules, List, [], ap, arith, max, refl, suc, zero, ℕ, ◌++◌, ◌+◌, ◌∷◌, ◌≡◌}
use Rattle.cap_spec.specs.Denoting.{AreElements, DenoteEach, places, words_from}
use Rattle.cap_spec.specs.Tree.{Trees, cap_count, cap_counts, child_counts, more, none, pointer_count, struct}
use Rattle.cap_spec.specs.Tree.{tree_count}
use Rattle.cap_walk.specs.Owing.{Owe}
use Rattle.cap_walk.specs.WalkNames.{Step, Item, Ptr, Ahead, element_rows, row}

-- what two lists owe together is what each owes
pub record Parts (m : List (List ℕ)) (xs ys : List Ahead) (c d p k : ℕ) : Type 0 where
  pub c1 : ℕ
  pub d1 : ℕ
  pub p1 : ℕ
  pub k1 : ℕ
  pub c2 : ℕ
  pub d2 : ℕ
  pub p2 : ℕ
  pub k2 : ℕ
  pub first : Owe m xs c1 d1 p1 k1
  pub second : Owe m ys c2 d2 p2 k2
  pub charge : c ≡ c1 + c2
  pub top : d ≡ max d1 d2
  pub pointers : p ≡ p1 + p2
  pub caps : k ≡ k1 + k2

pub append-Owe : {m : List (List ℕ)} (xs : List Ahead) {ys : List Ahead} {c d p k : ℕ} → Owe m (xs ++ ys) c d p k → Parts m xs ys c d p k
append-Owe (a ∷ xs) (t, c1, d1, c2, d2, p2, k2, own, rest, e1, e2, e3, e4) =
    let r = append-Owe xs rest in record {
      c1 = c1 + r.c1;
      d1 = max (a.level + d1) r.d1;
      p1 = pointer_count t + r.p1;
      k1 = cap_count t + r.k1;
      c2 = r.c2;
      d2 = r.d2;
      p2 = r.p2;
      k2 = r.k2;
      first = (t, c1, d1, r.c1, r.d1, r.p1, r.k1, own, r.first, refl, refl, refl, refl);
      second = r.second;
      charge = omega (arith, e1, r.charge);
      top = omega (arith, e2, r.top);
      pointers = omega (arith, e3, r.pointers);
      caps = omega (arith, e4, r.caps);
    }
append-Owe xs h = search rules

-- what is denoted by the pointers of an object that owes this
pub record RowDenotes (m : List (List ℕ)) (ps : List (ℕ × ℕ)) (level n c d p k : ℕ) : Type 0 where
  pub trees : Trees
  pub deep : ℕ
  pub denote : DenoteEach m ps trees c deep
  pub depth : max level d ≡ level + deep
  pub count : tree_count trees ≡ n
  pub pointers : p ≡ tree_count trees + child_counts trees
  pub caps : k ≡ cap_counts trees

-- a row of pointer words denotes what it owes
pub owes-row : {m : List (List ℕ)} (base : List Step) {level : ℕ} (step : ℕ → Step) (t b i n : ℕ) {c d p k : ℕ}
    → Owe m (row base level step t b i n) c d p k → RowDenotes m (places t b n) level n c d p k
owes-row base step t b i zero (e1, e2, e3, e4) = record {
  trees = none;
  deep = 0;
  denote = (refl, e1, refl);
  depth = omega (arith, e2);
  count = refl;
  pointers = e3;
  caps = e4;
}
owes-row base step t b i (suc n) (x, c1, d1, c2, d2, p2, k2, own, rest, e1, e2, e3, e4) =
    let r = owes-row base step t (b + 1) (i + 1) n rest in record {
      trees = more x r.trees;
      deep = max d1 r.deep;
      denote = (t, b, places t (b + 1) n, c1, d1, c2, r.deep, refl, own, r.denote, e1, refl);
      depth = omega (arith, e2, r.depth);
      count = ap suc r.count;
      pointers = omega (arith, e3, r.pointers);
      caps = omega (arith, e4, r.caps);
    }

-- the elements that owe this
pub record ElementsAre (m : List (List ℕ)) (t b ds ps n level c d p k : ℕ) : Type 0 where
  pub elements : Trees
  pub deep : ℕ
  pub are : AreElements m t b ds ps n elements c deep
  pub depth : max level d ≡ level + deep
  pub none : n ≡ 0 → d ≡ 0
  pub count : tree_count elements ≡ n
  pub pointers : p ≡ child_counts elements
  pub caps : k ≡ cap_counts elements

-- the elements of a list of structs are what they owe
pub owes-elements : {m : List (List ℕ)} (base : List Step) {level t ds ps : ℕ} (b i n : ℕ) {c d p k : ℕ}
    → Owe m (element_rows base level t b ds ps i n) c d p k → ElementsAre m t b ds ps n level c d p k
owes-elements base b i zero (e1, e2, e3, e4) = record {
  elements = none;
  deep = 0;
  are = (refl, e1, refl);
  depth = omega (arith, e2);
  none = λ _. e2;
  count = refl;
  pointers = e3;
  caps = e4;
}
owes-elements {m} base {t} {ds} {ps} b i (suc n) h =
    let parts = append-Owe _ h in
    let a = owes-row (base ++ Item i ∷ []) Ptr t (b + ds) 0 ps parts.first in
    let r = owes-elements base (b + ds + ps) (i + 1) n parts.second in record {
      elements = more (struct (words_from m t b ds) a.trees) r.elements;
      deep = max a.deep r.deep;
      are = (n, parts.c1, a.deep, parts.c2, r.deep, refl, refl, a.denote, r.are, parts.charge, refl);
      depth = omega (arith, parts.top, a.depth, r.depth);
      none = λ e. absurd (omega (arith, e));
      count = ap suc r.count;
      pointers = omega (arith, parts.pointers, a.pointers, r.pointers);
      caps = omega (arith, parts.caps, a.caps, r.caps);
    }
