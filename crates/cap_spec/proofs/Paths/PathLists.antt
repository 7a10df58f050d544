-- The paths to some of a tree's nodes, in preorder: they rise, they are exactly those, and how many they are.
use Rattle.cap_spec.specs.Tree.{child_count, child_counts, none}
use Rattle.cap_spec.proofs.ProofNames.{Bool, List, Some, [], ap, arith, false, inl, inr, length, length-append, not}
use Rattle.cap_spec.proofs.ProofNames.{refl, subst, suc, sym, true, ℕ, ◌++◌, ◌+◌, ◌∷◌, ◌≡◌, ◌⊎◌, IsOneOf, Before, Rises}
use Rattle.cap_spec.proofs.ProofNames.{number_of, Tree, Trees, cap, cap_count, cap_counts, more, null, part_at}
use Rattle.cap_spec.proofs.ProofNames.{pointers, scalars, struct, structs, tree_at, tree_count, Step, Item, Ptr, rules}
use Rattle.cap_spec.proofs.ProofNames.{common_steps}

-- each path after one step
abbrev pub after_step : Step → List (List Step) → List (List Step)
after_step step [] = []
after_step step (p ∷ ps) = (step ∷ p) ∷ after_step step ps

-- the empty path before the others, where the node itself is selected
abbrev pub with_own : Bool → List (List Step) → List (List Step)
with_own true ps = [] ∷ ps
with_own false ps = ps

-- whether the parts of a tree are elements of a struct list
abbrev pub is_structs : Tree → Bool
is_structs (structs d p es) = true
is_structs _ = false

-- The paths to the nodes that a test selects, which sees whether the node is an element of a struct list.
abbrev mutual
  -- but the empty one
  pub paths_below : (Bool → Tree → Bool) → Tree → List (List Step)
  paths_below test null = []
  paths_below test (cap i) = []
  paths_below test (struct words ts) = paths_from test false Ptr 0 ts
  paths_below test (scalars c vs) = []
  paths_below test (pointers ts) = paths_from test false Item 0 ts
  paths_below test (structs d p es) = paths_from test true Item 0 es

  -- of the parts from i on
  pub paths_from : (Bool → Tree → Bool) → Bool → (ℕ → Step) → ℕ → Trees → List (List Step)
  paths_from test is_element step i none = []
  paths_from test is_element step i (more t ts) =
      after_step (step i) (with_own (test is_element t) (paths_below test t)) ++ paths_from test is_element step (suc i) ts

-- the test selects the node at the path
abbrev pub Needs : (Bool → Tree → Bool) → Bool → Tree → List Step → Type 0
Needs test is_element t [] = test is_element t ≡ true
Needs test is_element t (step ∷ path) = (u : Tree) × (part_at t step ≡ Some u) × Needs test (is_structs t) u path

-- a member of two lists joined is one of the first or one of the second
pub member_append : (p : List Step) (xs ys : List (List Step)) → IsOneOf p (xs ++ ys) → IsOneOf p xs ⊎ IsOneOf p ys
member_append p [] ys h = inr h
member_append p (x ∷ xs) ys (inl e) = inl (inl e)
member_append p (x ∷ xs) ys (inr h) = search (rules, member_append p xs ys h)

-- a member of the first is one of both, and so is one of the second
pub member_front : (p : List Step) (xs ys : List (List Step)) → IsOneOf p xs → IsOneOf p (xs ++ ys)
member_front p [] ys h = absurd h
member_front p (x ∷ xs) ys (inl e) = inl e
member_front p (x ∷ xs) ys (inr h) = inr (member_front p xs ys h)

pub member_back : (p : List Step) (xs ys : List (List Step)) → IsOneOf p ys → IsOneOf p (xs ++ ys)
member_back p [] ys h = h
member_back p (x ∷ xs) ys h = inr (member_back p xs ys h)

-- what is after a step
member_after : (step : Step) (q : List Step) (ps : List (List Step)) → IsOneOf q (after_step step ps)
    → (p : List Step) × (q ≡ step ∷ p) × IsOneOf p ps
member_after step q [] h = absurd h
member_after step q (p ∷ ps) (inl e) = (p, e, inl refl)
member_after step q (p ∷ ps) (inr h) = let r = member_after step q ps h in (r.0, r.1, inr r.2)

after_member : (step : Step) (p : List Step) (ps : List (List Step)) → IsOneOf p ps
    → IsOneOf (step ∷ p) (after_step step ps)
after_member step p [] h = absurd h
after_member step p (q ∷ qs) (inl e) = inl (ap (λ x. step ∷ x) e)
after_member step p (q ∷ qs) (inr h) = inr (after_member step p qs h)

-- a path into one of the parts, whose rest is one of the part's
record IntoPart (test : Bool → Tree → Bool) (e : Bool) (step : ℕ → Step) (i : ℕ) (ts : Trees) (q : List Step) : Type 0 where
  number : ℕ
  part : Tree
  rest : List Step
  is : q ≡ step (i + number) ∷ rest
  at : tree_at ts number ≡ Some part
  listed : IsOneOf rest (with_own (test e part) (paths_below test part))

-- each of these paths goes into one of the parts
from_to_part : (test : Bool → Tree → Bool) (e : Bool) (step : ℕ → Step) (i : ℕ) (ts : Trees) (q : List Step)
    → IsOneOf q (paths_from test e step i ts) → IntoPart test e step i ts q
from_to_part test e step i none q h = absurd h
from_to_part test e step i (more t ts) q h =
    elim (member_append q (after_step (step i) (with_own (test e t) (paths_below test t)))
    (paths_from test e step (suc i) ts) h) [
      | inl g ↦
          let r = member_after (step i) q (with_own (test e t) (paths_below test t)) g in
          let k : i ≡ i + 0 = omega arith in
          record { number = 0; part = t; rest = r.0; is = rw (← k) r.1; at = refl; listed = r.2 }
      | inr g ↦
          let r = from_to_part test e step (suc i) ts q g in
          let k : suc i + r.number ≡ i + suc r.number = omega arith in
          record {
            number = suc r.number;
            part = r.part;
            rest = r.rest;
            is = rw (← k) r.is;
            at = r.at;
            listed = r.listed;
          }
    ]

-- and each path that the test selects in a part is one of them
part_to_from : (test : Bool → Tree → Bool) (e : Bool) (step : ℕ → Step) (i : ℕ) (ts : Trees) (j x : ℕ) (u : Tree)
    (p : List Step) → tree_at ts j ≡ Some u → x ≡ i + j
    → IsOneOf p (with_own (test e u) (paths_below test u)) → IsOneOf (step x ∷ p) (paths_from test e step i ts)
part_to_from test e step i (more t ts) (suc j) x u p f k h =
    search (rules, member_back, part_to_from test e step (suc i) ts j x u p f (omega arith) h)
part_to_from test e step i x4 j x u p f k h = search (rules, member_front, after_member)

-- a path into a part of a tree
record BelowPart (test : Bool → Tree → Bool) (t : Tree) (q : List Step) : Type 0 where
  step : Step
  part : Tree
  rest : List Step
  is : q ≡ step ∷ rest
  at : part_at t step ≡ Some part
  listed : IsOneOf rest (with_own (test (is_structs t) part) (paths_below test part))

-- a part by its number is a part by its step
part_by_step : (test : Bool → Tree → Bool) (t : Tree) (step : ℕ → Step) (ts : Trees) (q : List Step)
    → ((j : ℕ) → part_at t (step j) ≡ tree_at ts j) → IntoPart test (is_structs t) step 0 ts q → BelowPart test t q
part_by_step test t step ts q same r = search rules

-- the same of the paths below a tree
below_to_part : (test : Bool → Tree → Bool) (t : Tree) (q : List Step) → IsOneOf q (paths_below test t)
    → BelowPart test t q
below_to_part test (struct words ts) q h =
    part_by_step test (struct words ts) Ptr ts q (λ j. refl) (from_to_part test false Ptr 0 ts q h)
below_to_part test (pointers ts) q h =
    part_by_step test (pointers ts) Item ts q (λ j. refl) (from_to_part test false Item 0 ts q h)
below_to_part test (structs d ps es) q h =
    part_by_step test (structs d ps es) Item es q (λ j. refl) (from_to_part test true Item 0 es q h)
below_to_part test t q h = absurd h

part_to_below : (test : Bool → Tree → Bool) (t : Tree) (step : Step) (u : Tree) (p : List Step)
    → part_at t step ≡ Some u
    → IsOneOf p (with_own (test (is_structs t) u) (paths_below test u)) → IsOneOf (step ∷ p) (paths_below test t)
part_to_below test (struct words ts) (Ptr i) u p f h = part_to_from test false Ptr 0 ts i i u p f (omega arith) h
part_to_below test (pointers ts) (Item i) u p f h = part_to_from test false Item 0 ts i i u p f (omega arith) h
part_to_below test (structs d ps es) (Item i) u p f h = part_to_from test true Item 0 es i i u p f (omega arith) h
part_to_below test t step u p f h = absurd (cc f)

-- the empty path is none of those below
empty_not_below : (test : Bool → Tree → Bool) (t : Tree) → IsOneOf [] (paths_below test t) → ⊥
empty_not_below test t h = let r : BelowPart test t [] = below_to_part test t [] h in absurd (cc r.is)

-- The listed paths are those to the nodes that the test selects,
pub listed_expected : (test : Bool → Tree → Bool) (e : Bool) (t : Tree) (q : List Step)
    → IsOneOf q (with_own (test e t) (paths_below test t)) → Needs test e t q
listed_expected test e t [] h = search (rules, empty_not_below)
listed_expected test e t (step ∷ path) h =
    let r : BelowPart test t (step ∷ path) = below_to_part test t (step ∷ path) (go (test e t) h) in
    let x : step ≡ r.step = cc r.is in
    let y : path ≡ r.rest = cc r.is in (
      r.part,
      subst (λ (z : Step). part_at t z ≡ Some r.part) (sym x) r.at,
      listed_expected test (is_structs t) r.part path
          (subst (λ (z : List Step). IsOneOf z (with_own (test (is_structs t) r.part)
          (paths_below test r.part))) (sym y) r.listed),
    )
  where
    go : (b : Bool) → IsOneOf (step ∷ path) (with_own b (paths_below test t))
        → IsOneOf (step ∷ path) (paths_below test t)
    go true (inl g) = absurd (cc g)
    go true (inr g) = g
    go false g = g

-- and each path to such a node is listed.
pub expected_listed : (test : Bool → Tree → Bool) (e : Bool) (t : Tree) (q : List Step) → Needs test e t q
    → IsOneOf q (with_own (test e t) (paths_below test t))
expected_listed test e t [] h = subst (λ (b : Bool). IsOneOf [] (with_own b (paths_below test t))) (sym h) (inl refl)
expected_listed test e t (step ∷ path) h =
    go (test e t) (part_to_below test t step h.0 path h.1 (expected_listed test (is_structs t) h.0 path h.2))
  where
    go : (b : Bool) → IsOneOf (step ∷ path) (paths_below test t)
        → IsOneOf (step ∷ path) (with_own b (paths_below test t))
    go true g = inr g
    go false g = g

-- two rising lists joined rise, where each path of the first comes before each of the second
Rises-append : (xs ys : List (List Step)) → Rises xs → Rises ys
    → ((x y : List Step) → IsOneOf x xs → IsOneOf y ys → Before x y) → Rises (xs ++ ys)
Rises-append (x ∷ z ∷ xs) ys g h k = (g.0, Rises-append (z ∷ xs) ys g.1 h (λ a b i j. k a b (inr i) j))
Rises-append x0 ys g h k = search rules

-- a rising list after one step rises
Rises-after_step : (step : Step) (ps : List (List Step)) → Rises ps → Rises (after_step step ps)
Rises-after_step step (p ∷ q ∷ ps) h = (inr (refl, h.0), Rises-after_step step (q ∷ ps) h.1)
Rises-after_step step x1 h = search rules

-- and rises with the empty path before it
Rises-own : (test : Bool → Tree → Bool) (t : Tree) (b : Bool) (ps : List (List Step)) → ps ≡ paths_below test t
    → Rises ps → Rises (with_own b ps)
Rises-own test t true (p ∷ ps) e h =
    let r = below_to_part test t p (rw (← e) (inl refl)) in (rw r.is tt, h)
Rises-own test t x2 ps e h = search rules

-- a path into one part comes before those into later parts
steps_before : (test : Bool → Tree → Bool) (e : Bool) (step : ℕ → Step) → ((i : ℕ) → number_of (step i) ≡ i)
    → (i : ℕ) (t : Tree) (ts : Trees) (x y : List Step)
    → IsOneOf x (after_step (step i) (with_own (test e t) (paths_below test t)))
    → IsOneOf y (paths_from test e step (suc i) ts) → Before x y
steps_before test e step numbers i t ts x y f g = search (rules, member_after, from_to_part)

mutual
  -- The listed paths rise,
  pub below_rises : (test : Bool → Tree → Bool) (t : Tree) → Rises (paths_below test t)
  below_rises test (struct words ts) = from_rises test false Ptr (λ i. refl) 0 ts
  below_rises test (pointers ts) = from_rises test false Item (λ i. refl) 0 ts
  below_rises test (structs d p es) = from_rises test true Item (λ i. refl) 0 es
  below_rises test x1 = search rules

  -- where the step to a part has the part's number
  pub from_rises : (test : Bool → Tree → Bool) (e : Bool) (step : ℕ → Step) → ((i : ℕ) → number_of (step i) ≡ i)
      → (i : ℕ) (ts : Trees) → Rises (paths_from test e step i ts)
  from_rises test e step numbers i none = tt
  from_rises test e step numbers i (more t ts) =
      let own = below_rises test t in
      let rest = from_rises test e step numbers (suc i) ts in
      grind (arith, common_steps, Rises-append, Rises-after_step, Rises-own, steps_before)

-- and with the empty path, where the node is needed.
pub listed_rise : (test : Bool → Tree → Bool) (e : Bool) (t : Tree) → Rises (with_own (test e t) (paths_below test t))
listed_rise test e t = Rises-own test t (test e t) (paths_below test t) refl (below_rises test t)

-- as many after a step as before
length-after_step : (step : Step) (ps : List (List Step)) → length (after_step step ps) ≡ length ps
length-after_step step [] = refl
length-after_step step (p ∷ ps) = ap suc (length-after_step step ps)

-- every node but the elements of struct lists
abbrev pub is_pointer : Bool → Tree → Bool
is_pointer is_element t = not is_element

mutual
  -- as many pointers as children
  below_pointers : (t : Tree) → length (paths_below is_pointer t) ≡ child_count t
  below_pointers (struct words ts) = from_pointers Ptr 0 ts
  below_pointers (pointers ts) = from_pointers Item 0 ts
  below_pointers (structs d p es) = from_elements Item 0 es
  below_pointers x0 = search rules

  from_pointers : (step : ℕ → Step) (i : ℕ) (ts : Trees)
      → length (paths_from is_pointer false step i ts) ≡ tree_count ts + child_counts ts
  from_pointers step i none = refl
  from_pointers step i (more t ts) =
      grind (arith, common_steps, length-append, length-after_step, below_pointers t, from_pointers step (suc i) ts)

  from_elements : (step : ℕ → Step) (i : ℕ) (es : Trees)
      → length (paths_from is_pointer true step i es) ≡ child_counts es
  from_elements step i none = refl
  from_elements step i (more t ts) =
      grind (arith, common_steps, length-append, length-after_step, below_pointers t, from_elements step (suc i) ts)

-- The pointers of a tree are as many as the paths to nodes that aren't elements.
pub pointers_listed : (t : Tree) → length (with_own true (paths_below is_pointer t)) ≡ 1 + child_count t
pointers_listed t = omega (arith, below_pointers t)

-- the capabilities
abbrev pub is_cap : Tree → Bool
is_cap (cap i) = true
is_cap _ = false

abbrev pub needs_cap : Bool → Tree → Bool
needs_cap is_element t = is_cap t

mutual
  -- The capabilities of a tree are as many as the paths to them.
  pub caps_listed : (e : Bool) (t : Tree) → length (with_own (is_cap t) (paths_below needs_cap t)) ≡ cap_count t
  caps_listed e (struct words ts) = from_caps false Ptr 0 ts
  caps_listed e (pointers ts) = from_caps false Item 0 ts
  caps_listed e (structs d p es) = from_caps true Item 0 es
  caps_listed e x1 = search rules

  pub from_caps : (e : Bool) (step : ℕ → Step) (i : ℕ) (ts : Trees)
      → length (paths_from needs_cap e step i ts) ≡ cap_counts ts
  from_caps e step i none = refl
  from_caps e step i (more t ts) =
      grind (arith, common_steps, length-append, length-after_step, caps_listed e t, from_caps e step (suc i) ts)
