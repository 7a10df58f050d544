-- An accepted message has no justified refusal.
use Rattle.cap_spec.specs.Following.{HasTag}
use Rattle.cap_spec.specs.Verdicts.{is_wrong}
use Rattle.cap_spec.proofs.Paths.Arrivals.{coming_to_node}
use Rattle.cap_spec.proofs.Paths.Depths.{denoted_depth, object_depth, walk_depth}
use Rattle.cap_spec.proofs.Paths.PathCosts.{charge_is_cost}
use Rattle.cap_spec.proofs.Paths.PathCounts.{pointer_path_reached, pointer_paths}
use Rattle.cap_spec.proofs.Paths.Walks.{one_reached}
use Rattle.cap_spec.proofs.Pointers.Following.{cap-not_wrong, null-not_wrong, object-not_wrong}
use Rattle.cap_spec.proofs.ProofNames.{List, [], arith, inl, inr, refl, subst, sym, ℕ, ◌+◌, ◌∙◌, ◌∷◌, ◌≡◌, ◌≢◌, ◌≤◌}
use Rattle.cap_spec.proofs.ProofNames.{◌⊎◌, IsWithin, Denotes, Finds, Wrong, AreDistinct, IsOneOf, Costs, Reaches, word}
use Rattle.cap_spec.proofs.ProofNames.{Tree, cap, null, pointers, scalars, struct, structs, CostOf, Justified, levels_below, no_root, past_limit}
use Rattle.cap_spec.proofs.ProofNames.{too_deep, Reason, Refusal, Step, common_steps}
use Rattle.cap_spec.proofs.Trees.Charges.{one_cost}

-- one of some paths, its cost, and the others
pub record TakenOut (m : List (List ℕ)) (p : List Step) (qs : List (List Step)) (y : ℕ) : Type 0 where
  pub level : ℕ
  pub s : ℕ
  pub w : ℕ
  pub one : ℕ
  pub rest : ℕ
  pub others : List (List Step)
  pub reached : Reaches m p level s w
  pub costs : Costs m s w one
  pub cost : CostOf m others rest
  pub sum : y ≡ one + rest
  pub left : (q : List Step) → IsOneOf q qs → p ≢ q → IsOneOf q others

pub take_out : (m : List (List ℕ)) (p : List Step) (qs : List (List Step)) (y : ℕ) → IsOneOf p qs → CostOf m qs y
    → TakenOut m p qs y
take_out m p [] y i h = absurd i
take_out m p (q ∷ qs) y (inl e) (level, s, w, one, rest, reached, costs, after, sum) =
    record {
      level = level;
      s = s;
      w = w;
      one = one;
      rest = rest;
      others = qs;
      reached = subst (λ (v : List Step). Reaches m v level s w) (sym e) reached;
      costs = costs;
      cost = after;
      sum = sum;
      left = λ r j n. other r j n;
    }
  where
    other : (r : List Step) → IsOneOf r (q ∷ qs) → p ≢ r → IsOneOf r qs
    other r (inl f) n = absurd (n (e ∙ sym f))
    other r (inr f) n = f
take_out m p (q ∷ qs) y (inr i) (level, s, w, one, rest, reached, costs, after, sum) =
    let t : TakenOut m p qs rest = take_out m p qs rest i after in
    record {
      level = t.level;
      s = t.s;
      w = t.w;
      one = t.one;
      rest = one + t.rest;
      others = q ∷ t.others;
      reached = t.reached;
      costs = t.costs;
      cost = (level, s, w, one, t.rest, reached, costs, t.cost, refl);
      sum = omega (arith, t.sum, sum);
      left = λ r j n. other t.others t.left r j n;
    }
  where
    other : (os : List (List Step)) → ((r : List Step) → IsOneOf r qs → p ≢ r → IsOneOf r os) → (r : List Step)
        → (r ≡ q) ⊎ IsOneOf r qs → p ≢ r → (r ≡ q) ⊎ IsOneOf r os
    other os k r (inl f) n = inl f
    other os k r (inr f) n = inr (k r f n)

-- a path that is none of a list differs from each of them
pub not_one_of : (p q : List Step) (ps : List (List Step)) → ¬ IsOneOf p ps → IsOneOf q ps → p ≢ q
not_one_of p q ps n i e = n (rw e i)

-- distinct paths among others cost at most what those cost
pub distinct_cost : (m : List (List ℕ)) (ps qs : List (List Step)) (x y : ℕ) → AreDistinct ps
    → ((p : List Step) → IsOneOf p ps → IsOneOf p qs) → CostOf m ps x → CostOf m qs y → x ≤ y
distinct_cost m [] qs x y d k g h = omega (arith, g)
distinct_cost m (p ∷ ps) qs x y d k (level, s, w, one, rest, reached, costs, after, sum) h =
    let t : TakenOut m p qs y = take_out m p qs y (k p (inl refl)) h in
    let o = one_reached m p level t.level s w t.s t.w reached t.reached in
    let c : one ≡ t.one = one_cost m s w one t.one costs (rw (o.1, o.2) t.costs) in
    let left = λ (q : List Step) (i : IsOneOf q ps). t.left q (k q (inr i)) (not_one_of p q ps d.0 i) in
    omega (arith, c, t.sum, sum, distinct_cost m ps t.others rest t.rest d.1 left after t.cost)

-- paths that have a cost reach words
pub cost_reached : (m : List (List ℕ)) (ps : List (List Step)) (x : ℕ) (p : List Step) → CostOf m ps x → IsOneOf p ps
    → (level s w : ℕ) × Reaches m p level s w
cost_reached m [] x p h i = absurd i
cost_reached m (q ∷ qs) x p (level, s, w, one, rest, reached, costs, after, sum) (inl e) =
    (level, s, w, subst (λ (v : List Step). Reaches m v level s w) (sym e) reached)
cost_reached m (q ∷ qs) x p (level, s, w, one, rest, reached, costs, after, sum) (inr i) =
    cost_reached m qs rest p after i

-- Distinct paths cost at most the charge of the root's tree.
pub paths_cost_charge : (m : List (List ℕ)) (t : Tree) (c d : ℕ) → Denotes m 0 0 t c d → (ps : List (List Step)) (x : ℕ)
    → AreDistinct ps → CostOf m ps x → x ≤ c
paths_cost_charge m t c d h ps x a g =
    distinct_cost m ps (pointer_paths t) x c a
    (λ p i. let r = cost_reached m ps x p g i in (pointer_path_reached m t c d h p).1 r)
    g (charge_is_cost m t c d h)

-- No path leads deeper than the root's tree.
pub paths_within_depth : (m : List (List ℕ)) (t : Tree) (c d : ℕ) → Denotes m 0 0 t c d
    → (p : List Step) (level s w k t' b q tag : ℕ) → Reaches m p level s w
    → Finds m s w k t' b q → HasTag m t' b q tag → level + levels_below q tag ≤ d
paths_within_depth m t c d h p level s w k t' b q tag g f has =
    let r = walk_depth m (word 0 0) p g.1 (word s w) t (c, d, h) g.3 in
    let o = object_depth m s w r.0 r.1.0 r.1.1 k t' b q tag r.1.2 f has in
    omega (arith, o, r.2, g.4, denoted_depth m 0 0 t c d h, denoted_depth m s w r.0 r.1.0 r.1.1 r.1.2)

-- nothing is wrong where a tree is denoted
pub denoted_not_wrong : (m : List (List ℕ)) (s w : ℕ) (t : Tree) (c d : ℕ) → Denotes m s w t c d → (v : Reason)
    → Wrong m s w v → ⊥
denoted_not_wrong m s w null c d h v g = null-not_wrong m s w c h.0 v g
denoted_not_wrong m s w (cap i) c d h v g = cap-not_wrong m s w c i h.0 v g
denoted_not_wrong m s w (struct ws ts) c d (k, t, b, q, tag, ds, ps, inner, deep, found, own, each) v g =
    object-not_wrong m s w k t b q found.object.finds v g
denoted_not_wrong m s w (scalars e vs) c d (k, t, b, q, tag, n, found, own) v g =
    object-not_wrong m s w k t b q found.object.finds v g
denoted_not_wrong m s w (pointers ts) c d (k, t, b, q, tag, n, inner, deep, found, each) v g =
    object-not_wrong m s w k t b q found.object.finds v g
denoted_not_wrong m s w (structs ds ps es) c d (k, t, b, q, tag, n, inner, deep, found, each) v g =
    object-not_wrong m s w k t b q found.object.finds v g

-- Where the root denotes a tree, nothing is wrong at a pointer word that a path reaches.
pub reached_not_wrong : (m : List (List ℕ)) (t : Tree) (c d : ℕ) → Denotes m 0 0 t c d
    → (p : List Step) (level s w : ℕ) (v : Reason) → Reaches m p level s w → Wrong m s w v → ⊥
reached_not_wrong m t c d h p level s w v g x =
    let r = coming_to_node m t c d h p level (word s w) g in denoted_not_wrong m s w r.0 r.2.0 r.2.1 r.2.2 v x

-- An accepted message has no justified refusal.
pub within_not_justified : (m : List (List ℕ)) (words depth : ℕ) (r : Refusal) → IsWithin m words depth
    → ¬ Justified m words depth r
within_not_justified m words depth r (t, c, d, a) (no_root g) = grind (arith, common_steps)
within_not_justified m words depth r (t, c, d, a) (is_wrong g) =
    reached_not_wrong m t c d a.denotes g.0 g.1 r.segment r.word r.reason g.2 g.3
within_not_justified m words depth r (t, c, d, a) (too_deep e (path, level, reached, (k, t', b, q, tag, finds, has, past))) =
    let within = paths_within_depth m t c d a.denotes path level r.segment r.word k t' b q tag reached finds has in
    omega (arith, within, past, a.few_levels)
within_not_justified m words depth r (t, c, d, a) (past_limit e g) =
    omega (
      arith,
      paths_cost_charge m t c d a.denotes (g.last ∷ g.paths) (g.one + g.before) g.distinct
          (g.level, r.segment, r.word, g.one, g.before, g.reached, g.costs, g.others, refl),
      g.past,
      a.few_words,
    )
