-- What a disjoint message is charged, but for its empty elements, is less than its words.
use Rattle.cap_spec.proofs.ProofNames.{rules, List, [], ap, append_assoc, arith, false, inl, inr, length, length-append}
use Rattle.cap_spec.proofs.ProofNames.{pos, refl, subst, suc, sum, sym, true, zero, ℕ, ◌*◌, ◌++◌, ◌+◌, ◌<◌, ◌∙◌, ◌∷◌}
use Rattle.cap_spec.proofs.ProofNames.{◌≡◌, AreElements, DenoteEach, Denotes, Finds, Leads, extra, to_cap, to_null}
use Rattle.cap_spec.proofs.ProofNames.{to_object, sizes_of, AreDistinct, IsOneOf, HasWord, segment_of, IsDisjoint}
use Rattle.cap_spec.proofs.ProofNames.{Occupies, Uses, empty_count, pads_of, PathLeads, Spot, StepsTo, element}
use Rattle.cap_spec.proofs.ProofNames.{level_of, word, extent, Tree, Trees, cap, more, null, pointers, scalars, struct}
use Rattle.cap_spec.proofs.ProofNames.{structs, tree_count, Step, Item, Ptr}
use Rattle.cap_spec.specs.Denoting.{places}
use Rattle.cap_spec.specs.Occupying.{empty_counts}
use Rattle.cap_spec.specs.Tree.{none}
use Rattle.cap_spec.proofs.Canonical.TreeMeasures.{idle, scalars_extra, structs_extra}
use Rattle.cap_spec.proofs.Disjoint.Places.{all_places, apart_append, few_places, in_all, in_places, length_all}
use Rattle.cap_spec.proofs.Disjoint.Places.{pad_inside, pads_number, place_either}
use Rattle.cap_spec.proofs.Frames.Messages.{HasWord-inside, HasWord-segment}
use Rattle.cap_spec.proofs.Paths.Arrivals.{lead_word}
use Rattle.cap_spec.proofs.Paths.Depths.{elements_depth}
use Rattle.cap_spec.proofs.Paths.PathCounts.{pointer_paths}
use Rattle.cap_spec.proofs.Paths.PathLists.{after_step, is_pointer, listed_rise, paths_below, paths_from}
use Rattle.cap_spec.proofs.Paths.Preorder.{Rises-distinct}
use Rattle.cap_spec.proofs.Pointers.Shapes.{pointers_extra, struct_extra}
use Rattle.cap_spec.proofs.Trees.Charges.{length-places}
use Rattle.cap_spec.proofs.Trees.OneTree.{Formed, cons_parts, formed}
use Rattle.cap_spec.proofs.Trees.Readings.{length-values}
use Rattle.cap_spec.proofs.Verdicts.OneVerdict.{not_one_of}

-- following the pointer at s:w costs the words that it uses, and x beside them
abbrev Owns : List (List ℕ) → ℕ → ℕ → ℕ → ℕ → Type 0
Owns m s w one x = (used : List (ℕ × ℕ)) × Occupies m s w used × (one ≡ length used + x)

owns_null : (m : List (List ℕ)) (s w k : ℕ) → Leads m s w k to_null → Owns m s w k 0
owns_null m s w k h =
    let p = lead_word m s w k to_null h in
    (pads_of p.0, (p.0, p.1, inl (k, h, refl)), omega (arith, pads_number m s w k p.0 to_null h p.1))

owns_cap : (m : List (List ℕ)) (s w k i : ℕ) → Leads m s w k (to_cap i) → Owns m s w k 0
owns_cap m s w k i h =
    let p = lead_word m s w k (to_cap i) h in
    (pads_of p.0, (p.0, p.1, inr (inl (k, i, h, refl))), omega (arith, pads_number m s w k p.0 (to_cap i) h p.1))

owns_object : (m : List (List ℕ)) (s w k t b q x : ℕ) → Finds m s w k t b q → Owns m s w (k + extent q + x) x
owns_object m s w k t b q x f =
    let p = lead_word m s w k (to_object t (pos b) q) f.leads in
    let own : List (ℕ × ℕ) = places t b (extent q) in (
      pads_of p.0 ++ own,
      (p.0, p.1, inr (inr (k, t, b, q, f, refl))),
      search (rules, length-append, pads_number, length-places),
    )

-- these paths lead from a spot to pointers that use these places
abbrev UsedFrom : List (List ℕ) → Spot → List (List Step) → List (ℕ × ℕ) → Type 0
UsedFrom m a [] us = us ≡ []
UsedFrom m a (p ∷ ps) us =
    (n s w : ℕ) × (one rest : List (ℕ × ℕ)) × PathLeads m a p n (word s w) × Occupies m s w one × UsedFrom m a ps rest
    × (us ≡ one ++ rest)

used_append : (m : List (List ℕ)) (a : Spot) (ps qs : List (List Step)) (xs ys : List (ℕ × ℕ)) → UsedFrom m a ps xs
    → UsedFrom m a qs ys → UsedFrom m a (ps ++ qs) (xs ++ ys)
used_append m a [] qs xs ys g h = search rules
used_append m a (p ∷ ps) qs xs ys (n, s, w, one, rest, walks, occupies, after, parts) h =
    search (rules, append_assoc, used_append m a ps qs rest ys after h)

used_after : (m : List (List ℕ)) (a b : Spot) (step : Step) (ps : List (List Step)) (us : List (ℕ × ℕ))
    → StepsTo m a step b → UsedFrom m b ps us → UsedFrom m a (after_step step ps) us
used_after m a b step [] us g h = h
used_after m a b step (p ∷ ps) us g (n, s, w, one, rest, walks, occupies, after, parts) =
    (level_of b + n, s, w, one, rest, (b, n, g, walks, refl), occupies, used_after m a b step ps rest g after, parts)

-- and these are this many as the charge is but for e
abbrev Counted : List (List ℕ) → Spot → List (List Step) → ℕ → ℕ → Type 0
Counted m a ps c e = (us : List (ℕ × ℕ)) × UsedFrom m a ps us × (c ≡ length us + e)

counted_append : (m : List (List ℕ)) (a : Spot) (ps qs : List (List Step)) (c c' e e' : ℕ) → Counted m a ps c e
    → Counted m a qs c' e' → Counted m a (ps ++ qs) (c + c') (e + e')
counted_append m a ps qs c c' e e' (xs, g, k) (ys, h, l) =
    (xs ++ ys, used_append m a ps qs xs ys g h, omega (arith, k, l, length-append xs ys))

counted_after : (m : List (List ℕ)) (a b : Spot) (step : Step) (ps : List (List Step)) (c e : ℕ) → StepsTo m a step b
    → Counted m b ps c e → Counted m a (after_step step ps) c e
counted_after m a b step ps c e g (us, h, k) = (us, used_after m a b step ps us g h, k)

counted_own : (m : List (List ℕ)) (s w : ℕ) (ps : List (List Step)) (one x rest e c f : ℕ) → Owns m s w one x
    → Counted m (word s w) ps rest e → c ≡ one + rest → f ≡ x + e
    → Counted m (word s w) ([] ∷ ps) c f
counted_own m s w ps one x rest e c f (used, o, k) (us, u, l) y z =
    (used ++ us, (0, s, w, used, us, (refl, refl), o, u, refl), omega (arith, k, l, y, z, length-append used us))

mutual
  -- what a word denotes is charged the words that its paths use, and one for each empty element
  tree_counted : (m : List (List ℕ)) (s w : ℕ) (t : Tree) (c d : ℕ) → Denotes m s w t c d
      → Counted m (word s w) ([] ∷ paths_below is_pointer t) c (empty_count t)
  tree_counted m s w null c d h = counted_own m s w [] c 0 0 0 c 0 (owns_null m s w c h.0)
      ([], refl, refl) (omega arith) refl
  tree_counted m s w (cap i) c d h = counted_own m s w [] c 0 0 0 c 0 (owns_cap m s w c i h.0)
      ([], refl, refl) (omega arith) refl
  tree_counted m s w (struct ws ts) c d (k, t, b, q, tag, ds, ps, inner, deep, found, own, each) =
      counted_own m s w (paths_below is_pointer (struct ws ts)) (k + extent q + 0) 0 inner (empty_counts ts)
      c (empty_counts ts)
      (owns_object m s w k t b q 0 found.object.finds)
      (each_counted m (word s w) Ptr t (b + ds) ps 0 ps (b + ds) ts inner deep
      (λ j lt. (k, t, b, q, tag, ds, ps, found.object, lt, refl)) (omega arith) (omega arith) each)
      (omega (arith, found.charge, struct_extra found.object.shape)) (omega arith)
  tree_counted m s w (scalars e vs) c d (k, t, b, q, tag, n, found, own) =
      let l : length vs ≡ n = ap length own ∙ length-values m t b e n in
      let x : extra q tag ≡ idle e (length vs) = scalars_extra found.object.shape ∙ ap (idle e) (sym l) in
      counted_own m s w [] (k + extent q + extra q tag) (extra q tag) 0 0 c (idle e (length vs))
      (owns_object m s w k t b q (extra q tag) found.object.finds) ([], refl, refl)
      found.charge (sym x ∙ omega arith)
  tree_counted m s w (pointers ts) c d (k, t, b, q, tag, n, inner, deep, found, each) =
      counted_own m s w (paths_below is_pointer (pointers ts)) (k + extent q + 0) 0 inner (empty_counts ts)
      c (empty_counts ts)
      (owns_object m s w k t b q 0 found.object.finds)
      (each_counted m (word s w) Item t b n 0 n b ts inner deep
      (λ j lt. inl (k, t, b, q, tag, n, found.object, lt, refl)) (omega arith) (omega arith) each)
      (omega (arith, found.charge, pointers_extra found.object.shape)) (omega arith)
  tree_counted m s w (structs ds ps es) c d (k, t, b, q, tag, n, inner, deep, found, each) =
      let count : n ≡ tree_count es = (elements_depth m t (b + 1) ds ps n es inner deep each).0 in
      let x : extra q tag ≡ idle (ds + ps) (tree_count es) =
      structs_extra found.object.shape ∙ ap (idle (ds + ps)) count in
      counted_own m s w (paths_below is_pointer (structs ds ps es)) (k + extent q + extra q tag) (extra q tag)
      inner (empty_counts es) c (idle (ds + ps) (tree_count es) + empty_counts es)
      (owns_object m s w k t b q (extra q tag) found.object.finds)
      (elements_counted m (word s w) t (b + 1) ds ps n 0 n (b + 1) es inner deep
      (λ j lt. inr (k, t, b, q, tag, n, ds, ps, found.object, lt, refl)) (omega arith) (omega arith) each)
      found.charge (ap (λ (u : ℕ). u + empty_counts es) (sym x))

  -- the same of words at places, which steps from one spot lead to
  each_counted : (m : List (List ℕ)) (a : Spot) (step : ℕ → Step) (t b n i all start : ℕ) (ts : Trees) (c d : ℕ)
      → ((j : ℕ) → j < all → StepsTo m a (step j) (word t (start + j))) → i + n ≡ all → b ≡ start + i
      → DenoteEach m (places t b n) ts c d → Counted m a (paths_from is_pointer false step i ts) c (empty_counts ts)
  each_counted m a step t b n i all start none c d goes e f h = ([], refl, omega (arith, h.1))
  each_counted m a step t b zero i all start (more u ts) c d goes e f h = absurd cc
  each_counted m a step t b (suc n) i all start (more u ts) c d goes e f h =
      let (s, w, rest, c1, d1, c2, d2, begins, denotes, after, charge, depth) = h in
      let p = cons_parts (t, b) (s, w) (places t (b + 1) n) rest begins in
      let g : Denotes m t b u c1 d1 = subst (λ (y : ℕ × ℕ). Denotes m y.0 y.1 u c1 d1) (sym p.0) denotes in
      let x : Counted m (word t b) ([] ∷ paths_below is_pointer u) c1 (empty_count u) =
      tree_counted m t b u c1 d1 g in
      let y : StepsTo m a (step i) (word t b) =
      subst (λ (v : ℕ). StepsTo m a (step i) (word t v)) (sym f) (goes i (omega arith)) in
      subst (λ (v : ℕ). Counted m a (paths_from is_pointer false step i (more u ts)) v
      (empty_counts (more u ts))) (sym charge)
      (counted_append m a (after_step (step i) ([] ∷ paths_below is_pointer u))
      (paths_from is_pointer false step (suc i) ts) c1 c2 (empty_count u) (empty_counts ts)
      (counted_after m a (word t b) (step i) ([] ∷ paths_below is_pointer u) c1 (empty_count u) y x)
      (each_counted m a step t (b + 1) n (suc i) all start ts c2 d2 goes (omega arith) (omega arith) (rw p.1 after)))

  -- and of the elements of a struct list
  elements_counted : (m : List (List ℕ)) (a : Spot) (t b ds ps n i all start : ℕ) (es : Trees) (c d : ℕ)
      → ((j : ℕ) → j < all → StepsTo m a (Item j) (element t (start + j * (ds + ps)) ds ps)) → i + n ≡ all
      → b ≡ start + i * (ds + ps)
      → AreElements m t b ds ps n es c d → Counted m a (paths_from is_pointer true Item i es) c (empty_counts es)
  elements_counted m a t b ds ps n i all start none c d goes e f h = ([], refl, omega (arith, h.1))
  elements_counted m a t b ds ps n i all start (more (struct ws ts) es) c d goes e f h =
      let (fewer, c1, d1, c2, d2, counted, own, each, after, charge, depth) = h in
      let y : StepsTo m a (Item i) (element t b ds ps) =
      subst (λ (v : ℕ). StepsTo m a (Item i) (element t v ds ps)) (sym f) (goes i (omega (arith, counted))) in
      let x : Counted m (element t b ds ps) (paths_from is_pointer false Ptr 0 ts) c1 (empty_counts ts) =
      each_counted m (element t b ds ps) Ptr t (b + ds) ps 0 ps (b + ds) ts c1 d1 (λ j lt. (lt, refl)) (omega arith)
      (omega arith) each in
      subst (λ (v : ℕ). Counted m a (paths_from is_pointer true Item i (more (struct ws ts) es)) v
      (empty_counts (more (struct ws ts) es))) (sym charge)
      (counted_append m a (after_step (Item i) (paths_from is_pointer false Ptr 0 ts))
      (paths_from is_pointer true Item (suc i) es) c1 c2 (empty_counts ts) (empty_counts es)
      (counted_after m a (element t b ds ps) (Item i) (paths_from is_pointer false Ptr 0 ts) c1 (empty_counts ts) y x)
      (elements_counted m a t (b + ds + ps) ds ps fewer (suc i) all start es c2 d2 goes (omega (arith, counted))
      (omega arith) after))
  elements_counted m a t b ds ps n i all start (more x es) c d goes e f h = absurd h

-- a place of these is used by one of the paths
place_used : (m : List (List ℕ)) (root : ℕ) → HasWord m 0 0 root → (ps : List (List Step)) (us : List (ℕ × ℕ))
    → UsedFrom m (word 0 0) ps us → (x : ℕ × ℕ) → IsOneOf x us
    → (p : List Step) × IsOneOf p ps × Uses m p x
place_used m root has [] us g x i = absurd (subst (λ (u : List (ℕ × ℕ)). IsOneOf x u) g i)
place_used m root has (p ∷ ps) us (n, s, w, one, rest, walks, occupies, after, parts) x i =
    elim (place_either x one rest (subst (λ (u : List (ℕ × ℕ)). IsOneOf x u) parts i)) [
      | inl j ↦ (p, inl refl, (1 + n, s, w, one, (root, n, has, walks, refl), occupies, j))
      | inr j ↦ let r = place_used m root has ps rest after x j in (r.0, inr r.1, r.2)
    ]

-- the places that distinct paths of a disjoint message use are distinct
used_apart : (m : List (List ℕ)) → IsDisjoint m → (root : ℕ) → HasWord m 0 0 root → (ps : List (List Step))
    → AreDistinct ps → (us : List (ℕ × ℕ)) → UsedFrom m (word 0 0) ps us → AreDistinct us
used_apart m d root has [] a us g = subst AreDistinct (sym g) tt
used_apart m d root has (p ∷ ps) a us (n, s, w, one, rest, walks, occupies, after, parts) =
    subst AreDistinct (sym parts)
    (apart_append one rest (d.each p (1 + n) s w one (root, n, has, walks, refl) occupies)
    (used_apart m d root has ps a.1 rest after)
    (λ x i j. let r = place_used m root has ps rest after x j in
    not_one_of p r.0 ps a.0 r.1 (d.apart p r.0 x (1 + n, s, w, one, (root, n, has, walks, refl), occupies, i) r.2)))

-- a place that is used is a word of the message
used_inside : (m : List (List ℕ)) (p : List Step) (t x : ℕ) → Uses m p (t, x)
    → (t < length m) × (x < length (segment_of m t))
used_inside m path t x (level, s, w, used, r, (p, has, inl (k, h, e)), i) =
    pad_inside m s w k p to_null t x h has (subst (λ (u : List (ℕ × ℕ)). IsOneOf (t, x) u) e i)
used_inside m path t x (level, s, w, used, r, (p, has, inr (inl (k, j, h, e))), i) =
    pad_inside m s w k p (to_cap j) t x h has (subst (λ (u : List (ℕ × ℕ)). IsOneOf (t, x) u) e i)
used_inside m path t x (level, s, w, used, r, (p, has, inr (inr (k, u, b, q, f, e))), i) =
    elim (place_either (t, x) (pads_of p) (places u b (extent q))
    (subst (λ (v : List (ℕ × ℕ)). IsOneOf (t, x) v) e i)) [
      | inl j ↦ pad_inside m s w k p (to_object u (pos b) q) t x f.leads has j
      | inr j ↦
          let c = in_places u b (extent q) t x j in
          search rules
    ]

-- The charge of a disjoint message, but for its empty elements, is less than the words of all segments:
-- the root's own word isn't charged.
pub charge_below_words : (m : List (List ℕ)) (t : Tree) (c d : ℕ) → Denotes m 0 0 t c d → IsDisjoint m
    → c < sum (sizes_of m) + empty_count t
charge_below_words m t c d h dis =
    let f : Formed m 0 0 t = formed m 0 0 t c d h in
    let p = lead_word m 0 0 f.k f.r f.leads in
    let k = tree_counted m 0 0 t c d h in
    let apart : AreDistinct k.0 = used_apart m dis p.0 p.1 (pointer_paths t)
    (Rises-distinct (pointer_paths t) (listed_rise is_pointer false t)) k.0 k.1 in
    let few = few_places ((0, 0) ∷ k.0) (all_places 0 m)
    ((λ i. let r = place_used m p.0 p.1 (pointer_paths t) k.0 k.1 (0, 0) i in dis.root r.0 r.2), apart) inside in
    omega (arith, few, k.2, length_all 0 m)
  where
    inside : (x : ℕ × ℕ) → IsOneOf x ((0, 0) ∷ (tree_counted m 0 0 t c d h).0) → IsOneOf x (all_places 0 m)
    inside (s, w) (inl e) =
        let f : Formed m 0 0 t = formed m 0 0 t c d h in
        let p = lead_word m 0 0 f.k f.r f.leads in
        let root = in_all 0 m 0 0 (HasWord-segment m 0 0 p.0 p.1) (HasWord-inside m 0 0 p.0 p.1) in
        subst (λ (u : ℕ × ℕ). IsOneOf u (all_places 0 m)) (sym e) root
    inside (s, w) (inr i) =
        let f : Formed m 0 0 t = formed m 0 0 t c d h in
        let p = lead_word m 0 0 f.k f.r f.leads in
        let r = place_used m p.0 p.1 (pointer_paths t) (tree_counted m 0 0 t c d h).0
        (tree_counted m 0 0 t c d h).1 (s, w) i in
        let y = used_inside m r.0 s w r.2 in
        let e : 0 + s ≡ s = omega arith in
        subst (λ (u : ℕ). IsOneOf (u, w) (all_places 0 m)) e (in_all 0 m s w y.0 y.1)
