-- Whether a word denotes a tree of at most this many levels is decided: so where it isn't known which one, there is one.
use Rattle.cap_spec.specs.Denoting.{places}
use Rattle.cap_spec.specs.Tree.{none}
use Rattle.cap_spec.proofs.Frames.Messages.{HasWord-at, HasWord-inside}
use Rattle.cap_spec.proofs.Paths.Arrivals.{found_form, lead_word, pointers_form, struct_form, structs_form}
use Rattle.cap_spec.proofs.Pointers.Shapes.{pointers_levels, scalars_levels, struct_levels, structs_levels}
use Rattle.cap_spec.proofs.ProofNames.{List, [], arith, inl, inr, length, max, pos, refl, suc, zero, ℕ, ◌+◌, ◌-◌, ◌<◌}
use Rattle.cap_spec.proofs.ProofNames.{◌∷◌, ◌≡◌, ◌≤◌, ◌⊎◌, ∥∥₁_elim, cases_lt, eqb_tells, AreElements, DenoteEach}
use Rattle.cap_spec.proofs.ProofNames.{Denotes, Finds, FindsKind, element_levels, levels_below, values_of, words_from}
use Rattle.cap_spec.proofs.ProofNames.{extra, HasWord, segment_of, code, data_size, extent, kind, list_size, middle}
use Rattle.cap_spec.proofs.ProofNames.{pointer_size, Tree, Trees, cap, more, null, pointers, scalars, struct, structs}
use Rattle.cap_spec.proofs.ProofNames.{Pointers, Struct, Structs, rules, FindsCharged}
use Rattle.cap_spec.proofs.Trees.Charges.{lead_kind}
use Rattle.cap_spec.proofs.Trees.Finding.{one_found, pointers_found, scalars_found, struct_found, structs_found}
use Rattle.cap_spec.proofs.Trees.OneTree.{each_more, formed}
use Rattle.cap_spec.proofs.Trees.Outcomes.{Fate, fate}
use Rattle.cap_spec.proofs.Verdicts.OneVerdict.{denoted_not_wrong}
use Rattle.cap_spec.specs.declared.Kind.{Kind}

-- it is so, or it isn't
abbrev pub Decided : Type 0 → Type 0
Decided A = A ⊎ (A → ⊥)

-- the word at s:w denotes a tree of at most n levels
abbrev pub TreeWithin : List (List ℕ) → ℕ → ℕ → ℕ → Type 0
TreeWithin m n s w = (t : Tree) × (c d : ℕ) × Denotes m s w t c d × (d ≤ n)

-- so do the words at these places
abbrev pub EachWithin : List (List ℕ) → ℕ → List (ℕ × ℕ) → Type 0
EachWithin m n ps = (ts : Trees) × (c d : ℕ) × DenoteEach m ps ts c d × (d ≤ n)

-- and the pointer words of k elements from t:b on
abbrev ElementsWithin : List (List ℕ) → ℕ → ℕ → ℕ → ℕ → ℕ → ℕ → Type 0
ElementsWithin m n t b ds ps k = (es : Trees) × (c d : ℕ) × AreElements m t b ds ps k es c d × (d ≤ n)

-- the first of some words, and the others
first_each : (m : List (List ℕ)) (n s w : ℕ) (ps : List (ℕ × ℕ)) → EachWithin m n ((s, w) ∷ ps) → TreeWithin m n s w
first_each m n s w ps (none, c, d, h, le) = absurd (cc h.0)
first_each m n s w ps (more t ts, c, d, h, le) =
    let (c1, d1, c2, d2, own, after, charge, depth) = each_more m s w ps t ts c d h in
    (t, c1, d1, own, omega (arith, depth, le))

rest_each : (m : List (List ℕ)) (n s w : ℕ) (ps : List (ℕ × ℕ)) → EachWithin m n ((s, w) ∷ ps) → EachWithin m n ps
rest_each m n s w ps (none, c, d, h, le) = absurd (cc h.0)
rest_each m n s w ps (more t ts, c, d, h, le) =
    let (c1, d1, c2, d2, own, after, charge, depth) = each_more m s w ps t ts c d h in
    (ts, c2, d2, after, omega (arith, depth, le))

-- Where it is decided of each word, it is decided of all.
each_decided : (m : List (List ℕ)) (n : ℕ) → ((s w : ℕ) → Decided (TreeWithin m n s w)) → (ps : List (ℕ × ℕ))
    → Decided (EachWithin m n ps)
each_decided m n one [] = inl (none, 0, 0, (refl, refl, refl), omega arith)
each_decided m n one ((s, w) ∷ ps) = both (one s w) (each_decided m n one ps)
  where
    both : Decided (TreeWithin m n s w) → Decided (EachWithin m n ps) → Decided (EachWithin m n ((s, w) ∷ ps))
    both (inl (t, c, d, h, le)) (inl (ts, c', d', hs, les)) =
        inl (more t ts, c + c', max d d', (s, w, ps, c, d, c', d', refl, h, hs, refl, refl), omega (arith, le, les))
    both (inl x) (inr never) = inr (λ e. never (rest_each m n s w ps e))
    both (inr never) rest = inr (λ e. never (first_each m n s w ps e))

-- the first of some elements, and the others
first_element : (m : List (List ℕ)) (n t b ds ps k : ℕ) → ElementsWithin m n t b ds ps (suc k)
    → EachWithin m n (places t (b + ds) ps)
first_element m n t b ds ps k (more (struct ws ts) es, c, d, h, le) = search rules
first_element m n t b ds ps k x7 = search rules

rest_elements : (m : List (List ℕ)) (n t b ds ps k : ℕ) → ElementsWithin m n t b ds ps (suc k)
    → ElementsWithin m n t (b + ds + ps) ds ps k
rest_elements m n t b ds ps k (more (struct ws ts) es, c, d, h, le) = search rules
rest_elements m n t b ds ps k x7 = search rules

-- The same of elements.
elements_decided : (m : List (List ℕ)) (n : ℕ) → ((s w : ℕ) → Decided (TreeWithin m n s w)) → (t b ds ps k : ℕ)
    → Decided (ElementsWithin m n t b ds ps k)
elements_decided m n one t b ds ps zero = inl (none, 0, 0, (refl, refl, refl), omega arith)
elements_decided m n one t b ds ps (suc k) =
    both (each_decided m n one (places t (b + ds) ps)) (elements_decided m n one t (b + ds + ps) ds ps k)
  where
    both : Decided (EachWithin m n (places t (b + ds) ps)) → Decided (ElementsWithin m n t (b + ds + ps) ds ps k)
        → Decided (ElementsWithin m n t b ds ps (suc k))
    both (inl (ts, c, d, h, le)) (inl (es, c', d', hs, les)) =
        let l : max d d' ≤ n = omega arith in
        inl (more (struct _ ts) es, c + c', max d d', (k, c, d, c', d', refl, refl, h, hs, refl, refl), l)
    both (inl x) (inr never) = inr (λ e. never (rest_elements m n t b ds ps k e))
    both (inr never) rest = inr (λ e. never (first_element m n t b ds ps k e))

-- An object is found at s:w.
module _ (m : List (List ℕ)) (n s w k t b q tag : ℕ) where
  -- what a struct's pointers denote
  in_struct : {ds ps : ℕ} → FindsKind m s w (Struct ds ps) k t b q tag → TreeWithin m (suc n) s w
      → EachWithin m n (places t (b + ds) ps)
  in_struct {ds} {ps} f (struct ws ts, c, d, h, le) =
      let (k', t', b', q', tag', ds', ps', inner, deep, found, own, each) = h in
      let o = one_found f found.object in
      let x : ds ≡ ds' = cc o.kind in
      let y : ps ≡ ps' = cc o.kind in
      (ts, inner, deep, rw (o.segment, o.start, x, y) each, omega (arith, found.depth, le))
  in_struct f (x, c, d, h, le) = absurd (omega (arith, struct_form x c d h f))

  -- what the entries of a list of pointers denote
  in_pointers : {size : ℕ} → FindsKind m s w (Pointers size) k t b q tag → TreeWithin m (suc n) s w
      → EachWithin m n (places t b size)
  in_pointers {size} f (pointers ts, c, d, h, le) =
      let (k', t', b', q', tag', size', inner, deep, found, each) = h in
      let o = one_found f found.object in
      let x : size ≡ size' = cc o.kind in
      (ts, inner, deep, rw (o.segment, o.start, x) each, omega (arith, found.depth, le))
  in_pointers f (x, c, d, h, le) = absurd (omega (arith, pointers_form x c d h f))

  -- the elements of a list of structs
  in_structs : {size ds ps : ℕ} → FindsKind m s w (Structs size ds ps) k t b q tag → TreeWithin m (suc n) s w
      → ElementsWithin m (n - element_levels size) t (b + 1) ds ps size × (element_levels size ≤ n)
  in_structs {size} {ds} {ps} f (structs ds' ps' es, c, d, h, le) = search (rules, one_found, structs_levels)
  in_structs f (x, c, d, h, le) = absurd (omega (arith, structs_form x c d h f))

-- An object has a level.
no_level : (m : List (List ℕ)) (s w k t b q : ℕ) → Finds m s w k t b q → TreeWithin m 0 s w → ⊥
no_level m s w k t b q f (struct ws ts, c, d, (k', t', b', q', tag, ds, ps, inner, deep, found, own, each), le) =
    omega (arith, found.depth, le)
no_level m s w k t b q f (scalars e vs, c, d, (k', t', b', q', tag, n, found, own), le) = omega (arith, found.depth, le)
no_level m s w k t b q f (pointers ts, c, d, (k', t', b', q', tag, n, inner, deep, found, each), le) =
    omega (arith, found.depth, le)
no_level m s w k t b q f (structs ds ps es, c, d, (k', t', b', q', tag, n, inner, deep, found, each), le) =
    omega (arith, found.depth, le)
no_level m s w k t b q f (x, c, d, h, le) =
    omega (arith, lead_kind m s w k t (pos b) q f.leads, found_form m s w x c d k t b q h f)

-- an object, charged for itself and for what is below it
charged_here : {m : List (List ℕ)} {s w k t b q tag : ℕ} {what : Kind} → FindsKind m s w what k t b q tag → (c d : ℕ)
    → FindsCharged m s w what k t b q tag c d (k + extent q + extra q tag + c) (1 + levels_below q tag + d)
charged_here f c d = record { object = f; charge = refl; depth = refl }

-- Where it is decided of each word with fewer levels, it is decided of the object.
module _ (m : List (List ℕ)) (n s w k t b q : ℕ) (f : Finds m s w k t b q)
    (one : (j : ℕ) → j ≤ n → (s w : ℕ) → Decided (TreeWithin m j s w)) where
  struct_decided : kind q ≡ 0 → Decided (TreeWithin m (suc n) s w)
  struct_decided e =
      let object = struct_found m s w k t b q f e in
      elim (each_decided m n (one n (omega arith)) (places t (b + data_size q) (pointer_size q))) [
        | inl (ts, c, d, h, le) ↦
            let own = charged_here object c d in
            let words = words_from m t b (data_size q) in
            let l = struct_levels object.shape in
            let here : Denotes m s w (struct words ts) (k + extent q + extra q 0 + c) (1 + levels_below q 0 + d) =
            (k, t, b, q, 0, data_size q, pointer_size q, c, d, own, refl, h) in
            inl (struct words ts, _, _, here, omega (arith, le, l))
        | inr never ↦ inr (λ x. never (in_struct m n s w k t b q 0 object x))
      ]

  scalars_decided : kind q ≡ 1 → code q < 6 → Decided (TreeWithin m (suc n) s w)
  scalars_decided e lt =
      let object = scalars_found m s w k t b q f e lt in
      let own = charged_here object 0 0 in
      let values = values_of m t b (code q) (list_size q) in
      let l = scalars_levels object.shape in
      inl (scalars (code q) values, _, _, (k, t, b, q, 0, list_size q, own, refl), omega (arith, l))

  pointers_decided : kind q ≡ 1 → code q ≡ 6 → Decided (TreeWithin m (suc n) s w)
  pointers_decided e g =
      let object = pointers_found m s w k t b q f e g in
      elim (each_decided m n (one n (omega arith)) (places t b (list_size q))) [
        | inl (ts, c, d, h, le) ↦
            let own = charged_here object c d in
            let l = pointers_levels object.shape in
            inl (pointers ts, _, _, (k, t, b, q, 0, list_size q, c, d, own, h), omega (arith, le, l))
        | inr never ↦ inr (λ x. never (in_pointers m n s w k t b q 0 object x))
      ]

  structs_decided : (tag : ℕ) → kind q ≡ 1 → code q ≡ 7 → HasWord m t b tag → Decided (TreeWithin m (suc n) s w)
  structs_decided tag e g y =
      let object = structs_found m s w k t b q f tag e g y in
      elim (cases_lt n (element_levels (middle tag))) [
        | inl past ↦ inr (λ x. omega (arith, past, (in_structs m n s w k t b q tag object x).1))
        | inr fits ↦ elim (elements_decided m (n - element_levels (middle tag))
            (one (n - element_levels (middle tag)) (omega arith)) t (b + 1) (data_size tag)
            (pointer_size tag) (middle tag)) [
              | inl (es, c, d, h, le) ↦
                  let own = charged_here object c d in
                  let l = structs_levels object.shape in
                  let tree = structs (data_size tag) (pointer_size tag) es in
                  inl (tree, _, _, (k, t, b, q, tag, middle tag, c, d, own, h), omega (arith, le, fits, l))
              | inr never ↦ inr (λ x. never (in_structs m n s w k t b q tag object x).0)
            ]
      ]

  object_decided : Decided (TreeWithin m (suc n) s w)
  object_decided =
      elim (eqb_tells (kind q) 0) [
        | inl (x, zero_kind) ↦ struct_decided zero_kind
        | inr (x, other) ↦
            let e : kind q ≡ 1 = omega (arith, lead_kind m s w k t (pos b) q f.leads) in
            elim (cases_lt (code q) 6) [
              | inl small ↦ scalars_decided e small
              | inr large ↦ elim (eqb_tells (code q) 6) [
                | inl (y, six) ↦ pointers_decided e six
                | inr (y, seven) ↦
                    let g : code q ≡ 7 = omega (arith, large) in
                    let z = f.inside.composite (e, g) in structs_decided z.0 e g z.1
              ]
            ]
      ]

-- Where it is decided of each object, it is decided of a word.
word_decided : (m : List (List ℕ)) (n s w : ℕ) → ((k t b q : ℕ) → Finds m s w k t b q → Decided (TreeWithin m n s w))
    → Decided (TreeWithin m n s w)
word_decided m n s w object =
    elim (cases_lt w (length (segment_of m s))) [
      | inr past ↦ inr (λ (x, c, d, h, le).
          let r = formed m s w x c d h in
          let p = lead_word m s w r.k r.r r.leads in
          omega (arith, HasWord-inside m s w p.0 p.1, past))
      | inl there ↦ let p = HasWord-at m s w there in by_fate (fate m s w p.0 p.1)
    ]
  where
    by_fate : Fate m s w → Decided (TreeWithin m n s w)
    by_fate (inl (v, wrong)) = inr (λ (x, c, d, h, le). denoted_not_wrong m s w x c d h v wrong)
    by_fate (inr (inl (k, leads))) = inl (null, k, 0, (leads, refl), omega arith)
    by_fate (inr (inr (inl (k, i, leads)))) = inl (cap i, k, 0, (leads, refl), omega arith)
    by_fate (inr (inr (inr (k, t, b, q, f)))) = object k t b q f

-- It is decided for each number of levels up to n.
up_to_decided : (m : List (List ℕ)) (n j : ℕ) → j ≤ n → (s w : ℕ) → Decided (TreeWithin m j s w)
up_to_decided m n zero le s w = word_decided m zero s w (λ k t b q f. inr (no_level m s w k t b q f))
up_to_decided m zero (suc j) le s w = absurd (omega (arith, le))
up_to_decided m (suc n) (suc j) le s w =
    word_decided m (suc j) s w (λ k t b q f. object_decided m j s w k t b q f
    (λ i li. up_to_decided m n i (omega (arith, le, li))))

-- It is decided whether a word denotes a tree of at most n levels.
pub tree_decided : (m : List (List ℕ)) (n s w : ℕ) → Decided (TreeWithin m n s w)
tree_decided m n = up_to_decided m n n (omega arith)

-- So where there may be such a tree, there is one.
pub tree_within : (m : List (List ℕ)) (n s w : ℕ) → ∥ TreeWithin m n s w ∥₁ → TreeWithin m n s w
tree_within m n s w h =
    let one : IsProp ⊥ = hlevel in
    elim (tree_decided m n s w) [ inl x ↦ x | inr never ↦ absurd (∥∥₁_elim h one never) ]

-- The same of words at some places.
pub each_within : (m : List (List ℕ)) (n : ℕ) (ps : List (ℕ × ℕ)) → ∥ EachWithin m n ps ∥₁ → EachWithin m n ps
each_within m n ps h =
    let one : IsProp ⊥ = hlevel in
    elim (each_decided m n (tree_decided m n) ps) [ inl x ↦ x | inr never ↦ absurd (∥∥₁_elim h one never) ]
