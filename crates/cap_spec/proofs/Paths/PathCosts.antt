-- The charge of the root's tree is what following the paths that reach a pointer word costs, each counted once.
use Rattle.cap_spec.specs.Denoting.{places}
use Rattle.cap_spec.specs.Tree.{none}
use Rattle.cap_spec.proofs.Paths.Arrivals.{lead_word}
use Rattle.cap_spec.proofs.Paths.PathCounts.{pointer_paths}
use Rattle.cap_spec.proofs.Paths.PathLists.{after_step, is_pointer, paths_below, paths_from}
use Rattle.cap_spec.proofs.ProofNames.{List, [], arith, false, inl, inr, refl, subst, suc, sym, true, zero, ℕ, ◌*◌}
use Rattle.cap_spec.proofs.ProofNames.{◌++◌, ◌+◌, ◌<◌, ◌∷◌, ◌≡◌, AreElements, DenoteEach, Denotes, HasWord, Costs}
use Rattle.cap_spec.proofs.ProofNames.{PathLeads, Spot, StepsTo, element, level_of, word, Tree, Trees, cap, more, null}
use Rattle.cap_spec.proofs.ProofNames.{pointers, scalars, struct, structs, CostOf, Step, Item, Ptr, rules, common_steps}
use Rattle.cap_spec.proofs.Trees.Finding.{found_cost}
use Rattle.cap_spec.proofs.Trees.OneTree.{Formed, each_more, formed}

-- these paths lead from a spot to words that aren't wrong, and following them costs this much in all
abbrev pub CostFrom : List (List ℕ) → Spot → List (List Step) → ℕ → Type 0
CostFrom m a [] cost = cost ≡ 0
CostFrom m a (p ∷ ps) cost =
    (n s w one rest : ℕ) × PathLeads m a p n (word s w) × Costs m s w one × CostFrom m a ps rest × (cost ≡ one + rest)

-- the costs of two lists add up
cost_append : (m : List (List ℕ)) (a : Spot) (ps qs : List (List Step)) (x y : ℕ) → CostFrom m a ps x
    → CostFrom m a qs y → CostFrom m a (ps ++ qs) (x + y)
cost_append m a [] qs x y g h = subst (λ (z : ℕ). CostFrom m a qs z) (omega arith) h
cost_append m a (p ∷ ps) qs x y (n, s, w, one, rest, walks, costs, after, sum) h =
    (n, s, w, one, rest + y, walks, costs, cost_append m a ps qs rest y after h, omega (arith, sum))

-- after one step paths cost what they cost from its end
cost_after : (m : List (List ℕ)) (a b : Spot) (step : Step) (ps : List (List Step)) (x : ℕ) → StepsTo m a step b
    → CostFrom m b ps x → CostFrom m a (after_step step ps) x
cost_after m a b step [] x g h = h
cost_after m a b step (p ∷ ps) x g (n, s, w, one, rest, walks, costs, after, sum) =
    (level_of b + n, s, w, one, rest, (b, n, g, walks, refl), costs, cost_after m a b step ps rest g after, sum)

-- a word's own cost, and that of the paths below it
cost_own : (m : List (List ℕ)) (s w : ℕ) (ps : List (List Step)) (one rest c : ℕ) → Costs m s w one
    → CostFrom m (word s w) ps rest → c ≡ one + rest
    → CostFrom m (word s w) ([] ∷ ps) c
cost_own m s w ps one rest c g h e = (0, s, w, one, rest, (refl, refl), g, h, e)

mutual
  -- what a word denotes is charged what its paths cost
  pub tree_cost : (m : List (List ℕ)) (s w : ℕ) (t : Tree) (c d : ℕ) → Denotes m s w t c d
      → CostFrom m (word s w) ([] ∷ paths_below is_pointer t) c
  tree_cost m s w null c d h = cost_own m s w [] c 0 c (inl h.0) refl (omega arith)
  tree_cost m s w (cap i) c d h = cost_own m s w [] c 0 c (inr (inl (i, h.0))) refl (omega arith)
  tree_cost m s w (struct ws ts) c d (k, t, b, q, tag, ds, ps, inner, deep, found, own, each) =
      let below = each_cost m (word s w) Ptr t (b + ds) ps 0 ps (b + ds) ts inner deep
      (λ j lt. (k, t, b, q, tag, ds, ps, found.object, lt, refl)) (omega arith) (omega arith) each in
      search (rules, cost_own, found_cost)
  tree_cost m s w (scalars e vs) c d (k, t, b, q, tag, n, found, own) = search (rules, cost_own, found_cost)
  tree_cost m s w (pointers ts) c d (k, t, b, q, tag, n, inner, deep, found, each) =
      let below = each_cost m (word s w) Item t b n 0 n b ts inner deep
      (λ j lt. inl (k, t, b, q, tag, n, found.object, lt, refl)) (omega arith) (omega arith) each in
      search (rules, cost_own, found_cost)
  tree_cost m s w (structs ds ps es) c d (k, t, b, q, tag, n, inner, deep, found, each) =
      let below = elements_cost m (word s w) t (b + 1) ds ps n 0 n (b + 1) es inner deep
      (λ j lt. inr (k, t, b, q, tag, n, ds, ps, found.object, lt, refl)) (omega arith) (omega arith) each in
      search (rules, cost_own, found_cost)

  -- the same of words at places, which steps from one spot lead to
  pub each_cost : (m : List (List ℕ)) (a : Spot) (step : ℕ → Step) (t b n i all start : ℕ) (ts : Trees) (c d : ℕ)
      → ((j : ℕ) → j < all → StepsTo m a (step j) (word t (start + j))) → i + n ≡ all → b ≡ start + i
      → DenoteEach m (places t b n) ts c d → CostFrom m a (paths_from is_pointer false step i ts) c
  each_cost m a step t b n i all start none c d goes e f h = h.1
  each_cost m a step t b zero i all start (more u ts) c d goes e f h = absurd cc
  each_cost m a step t b (suc n) i all start (more u ts) c d goes e f h =
      let (c1, d1, c2, d2, own, after, charge, depth) = each_more m t b (places t (b + 1) n) u ts c d h in
      let x : CostFrom m (word t b) ([] ∷ paths_below is_pointer u) c1 = tree_cost m t b u c1 d1 own in
      let y : StepsTo m a (step i) (word t b) =
      subst (λ (v : ℕ). StepsTo m a (step i) (word t v)) (sym f) (goes i (omega arith)) in
      subst (λ (v : ℕ). CostFrom m a (paths_from is_pointer false step i (more u ts)) v) (sym charge)
      (cost_append m a (after_step (step i) ([] ∷ paths_below is_pointer u))
      (paths_from is_pointer false step (suc i) ts) c1 c2
      (cost_after m a (word t b) (step i) ([] ∷ paths_below is_pointer u) c1 y x)
      (each_cost m a step t (b + 1) n (suc i) all start ts c2 d2 goes (omega arith) (omega arith) after))

  -- and of the elements of a struct list
  pub elements_cost : (m : List (List ℕ)) (a : Spot) (t b ds ps n i all start : ℕ) (es : Trees) (c d : ℕ)
      → ((j : ℕ) → j < all → StepsTo m a (Item j) (element t (start + j * (ds + ps)) ds ps)) → i + n ≡ all
      → b ≡ start + i * (ds + ps)
      → AreElements m t b ds ps n es c d → CostFrom m a (paths_from is_pointer true Item i es) c
  elements_cost m a t b ds ps n i all start none c d goes e f h = h.1
  elements_cost m a t b ds ps n i all start (more (struct ws ts) es) c d goes e f h =
      let (fewer, c1, d1, c2, d2, counted, own, each, after, charge, depth) = h in
      let first = each_cost m (element t b ds ps) Ptr t (b + ds) ps 0 ps (b + ds) ts c1 d1 (λ j lt. (lt, refl))
      (omega arith) (omega arith) each in
      let rest = elements_cost m a t (b + ds + ps) ds ps fewer (suc i) all start es c2 d2 goes (omega (arith, counted))
      (omega arith) after in
      grind (arith, common_steps, cost_append, cost_after)
  elements_cost m a t b ds ps n i all start (more x es) c d goes e f h = absurd h

-- costs from the root are costs of paths
cost_of : (m : List (List ℕ)) (root : ℕ) → HasWord m 0 0 root → (ps : List (List Step)) (x : ℕ)
    → CostFrom m (word 0 0) ps x → CostOf m ps x
cost_of m root has [] x h = h
cost_of m root has (p ∷ ps) x (n, s, w, one, rest, walks, costs, after, sum) =
    (1 + n, s, w, one, rest, (root, n, has, walks, refl), costs, cost_of m root has ps rest after, sum)

-- The charge of the root's tree is what the paths that reach a pointer word cost.
pub charge_is_cost : (m : List (List ℕ)) (t : Tree) (c d : ℕ) → Denotes m 0 0 t c d → CostOf m (pointer_paths t) c
charge_is_cost m t c d h =
    let f : Formed m 0 0 t = formed m 0 0 t c d h in
    let p = lead_word m 0 0 f.k f.r f.leads in
    cost_of m p.0 p.1 (pointer_paths t) c (tree_cost m 0 0 t c d h)
