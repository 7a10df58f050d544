-- Some path leads as deep as the root's tree is.
use Rattle.cap_spec.specs.Denoting.{places}
use Rattle.cap_spec.specs.Tree.{none}
use Rattle.cap_spec.proofs.Paths.Arrivals.{lead_word}
use Rattle.cap_spec.proofs.Paths.Depths.{levels_of_some}
use Rattle.cap_spec.proofs.Pointers.Shapes.{pointers_levels, struct_levels, structs_levels}
use Rattle.cap_spec.proofs.ProofNames.{List, [], arith, inl, inr, max, refl, subst, suc, sym, zero, ℕ, ◌*◌, ◌+◌, ◌<◌}
use Rattle.cap_spec.proofs.ProofNames.{◌∷◌, ◌≡◌, ◌≤◌, ◌⊎◌, AreElements, DenoteEach, Denotes, Finds, element_levels}
use Rattle.cap_spec.proofs.ProofNames.{IsComposite, HasWord, PathLeads, Reaches, Spot, StepsTo, element, level_of, word}
use Rattle.cap_spec.proofs.ProofNames.{Tree, Trees, more, pointers, scalars, struct, structs, levels_below, Step, Item}
use Rattle.cap_spec.proofs.ProofNames.{Ptr, rules}
use Rattle.cap_spec.proofs.Trees.OneTree.{Formed, each_more, formed}

-- a path from a spot to a word whose object is this deep, counted from the spot
pub record Deep (m : List (List ℕ)) (a : Spot) (d : ℕ) : Type 0 where
  pub path : List Step
  pub n : ℕ
  pub s : ℕ
  pub w : ℕ
  pub k : ℕ
  pub t : ℕ
  pub b : ℕ
  pub q : ℕ
  pub tag : ℕ
  pub walks : PathLeads m a path n (word s w)
  pub finds : Finds m s w k t b q
  pub has_tag : IsComposite q → HasWord m t b tag
  pub depth : d ≡ n + 1 + levels_below q tag

-- after one step
deeper : (m : List (List ℕ)) (a b : Spot) (step : Step) (d : ℕ) → StepsTo m a step b → Deep m b d
    → Deep m a (level_of b + d)
deeper m a b step d g h = record {
  path = step ∷ h.path;
  n = level_of b + h.n;
  s = h.s;
  w = h.w;
  k = h.k;
  t = h.t;
  b = h.b;
  q = h.q;
  tag = h.tag;
  walks = (b, h.n, g, h.walks, refl);
  finds = h.finds;
  has_tag = h.has_tag;
  depth = omega (arith, h.depth);
}

-- the object of a word itself
own_depth : (m : List (List ℕ)) (s w k t b q tag d : ℕ) → Finds m s w k t b q → (IsComposite q → HasWord m t b tag)
    → d ≡ 1 + levels_below q tag → Deep m (word s w) d
own_depth m s w k t b q tag d f has e = record {
  path = [];
  n = 0;
  s = s;
  w = w;
  k = k;
  t = t;
  b = b;
  q = q;
  tag = tag;
  walks = (refl, refl);
  finds = f;
  has_tag = has;
  depth = omega (arith, e);
}

-- at an equal depth
deep_moved : (m : List (List ℕ)) (a : Spot) (d d' : ℕ) → d ≡ d' → Deep m a d → Deep m a d'
deep_moved m a d d' e h = subst (λ (x : ℕ). Deep m a x) e h

-- the greater of two numbers is one of them
greater : (x y : ℕ) → (max x y ≡ x) ⊎ ((max x y ≡ y) × (x ≤ y))
greater x y = grind arith

-- a number is 0, or more
none_or_more : (x : ℕ) → (x ≡ 0) ⊎ (0 < x)
none_or_more x0 = search rules

mutual
  -- what a word denotes is as deep as some object that a path from the word reaches
  tree_deepest : (m : List (List ℕ)) (s w : ℕ) (t : Tree) (c d : ℕ) → Denotes m s w t c d → 0 < d → Deep m (word s w) d
  tree_deepest m s w (struct ws ts) c d (k, t, b, q, tag, ds, ps, inner, deep, found, own, each) lt =
      elim (none_or_more deep) [
        | inl e ↦ own_depth m s w k t b q tag d found.object.finds found.object.tagged (omega (arith, found.depth, e))
        | inr e ↦
            deep_moved m (word s w) (1 + deep) d (omega (arith, found.depth, struct_levels found.object.shape))
            (each_deepest m (word s w) Ptr t (b + ds) ps 0 ps (b + ds) ts inner deep
            (λ j less. (k, t, b, q, tag, ds, ps, found.object, less, refl)) (omega arith) (omega arith) each e)
      ]
  tree_deepest m s w (scalars e vs) c d (k, t, b, q, tag, n, found, own) lt =
      own_depth m s w k t b q tag d found.object.finds found.object.tagged (omega (arith, found.depth))
  tree_deepest m s w (pointers ts) c d (k, t, b, q, tag, n, inner, deep, found, each) lt =
      elim (none_or_more deep) [
        | inl e ↦ own_depth m s w k t b q tag d found.object.finds found.object.tagged (omega (arith, found.depth, e))
        | inr e ↦
            deep_moved m (word s w) (1 + deep) d (omega (arith, found.depth, pointers_levels found.object.shape))
            (each_deepest m (word s w) Item t b n 0 n b ts inner deep
            (λ j less. inl (k, t, b, q, tag, n, found.object, less, refl)) (omega arith) (omega arith) each e)
      ]
  tree_deepest m s w (structs ds ps es) c d (k, t, b, q, tag, n, inner, deep, found, each) lt =
      elim (none_or_more deep) [
        | inl e ↦ own_depth m s w k t b q tag d found.object.finds found.object.tagged (omega (arith, found.depth, e))
        | inr e ↦
            deep_moved m (word s w) (element_levels n + (1 + deep)) d
            (omega (arith, found.depth, structs_levels found.object.shape))
            (elements_deepest m (word s w) t (b + 1) ds ps n 0 n (b + 1) es inner deep
            (λ j less. inr (k, t, b, q, tag, n, ds, ps, found.object, less, refl)) (omega arith) (omega arith) each e)
      ]
  tree_deepest m s w x3 c d h lt = search rules

  -- the same of words at places, which steps from one spot lead to
  each_deepest : (m : List (List ℕ)) (a : Spot) (step : ℕ → Step) (t b n i all start : ℕ) (ts : Trees) (c d : ℕ)
      → ((j : ℕ) → j < all → StepsTo m a (step j) (word t (start + j))) → i + n ≡ all → b ≡ start + i
      → DenoteEach m (places t b n) ts c d → 0 < d → Deep m a (1 + d)
  each_deepest m a step t b n i all start none c d goes e f h lt = absurd (omega (arith, h.2))
  each_deepest m a step t b zero i all start (more u ts) c d goes e f h lt = absurd cc
  each_deepest m a step t b (suc n) i all start (more u ts) c d goes e f h lt =
      let (c1, d1, c2, d2, own, after, charge, depth) = each_more m t b (places t (b + 1) n) u ts c d h in
      elim (greater d1 d2) [
        | inl x ↦
            let y : StepsTo m a (step i) (word t b) =
            subst (λ (v : ℕ). StepsTo m a (step i) (word t v)) (sym f) (goes i (omega arith)) in
            deep_moved m a (1 + d1) (1 + d) (omega (arith, x, depth))
            (deeper m a (word t b) (step i) d1 y (tree_deepest m t b u c1 d1 own (omega (arith, x, depth))))
        | inr x ↦
            deep_moved m a (1 + d2) (1 + d) (omega (arith, x.0, depth))
            (each_deepest m a step t (b + 1) n (suc i) all start ts c2 d2 goes (omega arith) (omega arith)
            after (omega (arith, x.0, depth)))
      ]

  -- and of the elements of a struct list
  elements_deepest : (m : List (List ℕ)) (a : Spot) (t b ds ps n i all start : ℕ) (es : Trees) (c d : ℕ)
      → ((j : ℕ) → j < all → StepsTo m a (Item j) (element t (start + j * (ds + ps)) ds ps)) → i + n ≡ all
      → b ≡ start + i * (ds + ps)
      → AreElements m t b ds ps n es c d → 0 < d → Deep m a (element_levels all + (1 + d))
  elements_deepest m a t b ds ps n i all start (more (struct ws ts) es) c d goes e f h lt =
      let (fewer, c1, d1, c2, d2, counted, own, each, after, charge, depth) = h in
      elim (greater d1 d2) [
        | inl x ↦
            let y : StepsTo m a (Item i) (element t b ds ps) =
            subst (λ (v : ℕ). StepsTo m a (Item i) (element t v ds ps)) (sym f) (goes i (omega (arith, counted))) in
            deep_moved m a (element_levels 1 + (1 + d1)) (element_levels all + (1 + d))
            (omega (arith, x, depth, levels_of_some all (omega (arith, counted))))
            (deeper m a (element t b ds ps) (Item i) (1 + d1) y
            (each_deepest m (element t b ds ps) Ptr t (b + ds) ps 0 ps (b + ds) ts c1 d1 (λ j less. (less, refl))
            (omega arith) (omega arith) each (omega (arith, x, depth))))
        | inr x ↦
            deep_moved m a (element_levels all + (1 + d2)) (element_levels all + (1 + d)) (omega (arith, x.0, depth))
            (elements_deepest m a t (b + ds + ps) ds ps fewer (suc i) all start es c2 d2 goes (omega (arith, counted))
            (omega arith) after (omega (arith, x.0, depth)))
      ]
  elements_deepest m a t b ds ps n i all start x10 c d goes e f h lt = search rules

-- Where the root denotes a tree of some depth, a path reaches an object that is as deep.
pub deepest_reached : (m : List (List ℕ)) (t : Tree) (c d : ℕ) → Denotes m 0 0 t c d → 0 < d
    → (p : List Step) × (level s w k u b q tag : ℕ) × Reaches m p level s w × Finds m s w k u b q
    × (IsComposite q → HasWord m u b tag) × (d ≡ level + levels_below q tag)
deepest_reached m t c d h lt =
    let f : Formed m 0 0 t = formed m 0 0 t c d h in
    let r = lead_word m 0 0 f.k f.r f.leads in
    let x : Deep m (word 0 0) d = tree_deepest m 0 0 t c d h lt in
    let reached : Reaches m x.path (1 + x.n) x.s x.w = (r.0, x.n, r.1, x.walks, refl) in
    let e : d ≡ 1 + x.n + levels_below x.q x.tag = omega (arith, x.depth) in
    (x.path, 1 + x.n, x.s, x.w, x.k, x.t, x.b, x.q, x.tag, reached, x.finds, x.has_tag, e)
