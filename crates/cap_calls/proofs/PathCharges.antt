-- The pointers on each path of an accepted message keep to the limits.
use Rattle.cap_spec.specs.declared.Step.{Step}
use Rattle.cap_spec.proofs.Lemmas.{lead_word, part_to_step, step_to_part, coming_last, formed, paths_cost_charge}
use Rattle.cap_spec.proofs.Lemmas.{paths_within_depth}
use Rattle.cap_spec.proofs.Paths.Preorder.{Rises-distinct}
use Rattle.cap_spec.proofs.ProofNames.{List, None, Option, Some, [], append-nil, append_assoc, arith, length}
use Rattle.cap_spec.proofs.ProofNames.{length-append, refl, subst, sym, ℕ, ◌++◌, ◌+◌, ◌-◌, ◌<◌, ◌∷◌, ◌≡◌, IsWithin}
use Rattle.cap_spec.proofs.ProofNames.{AreOnPath, ReachesSpot, Spot, level_of, word, DenotesAt, Tree, part_at}
use Rattle.cap_spec.proofs.ProofNames.{CostOf, rules}
use Rattle.cap_spec.proofs.Trees.Charges.{own_cost}
use Rattle.cap_spec.proofs.Verdicts.OnPath.{cost_last, on_element, on_no_node, on_root, on_word}
use Rattle.cap_vet.specs.PathDemands.{KeepsToLimits}

-- the pointers on a path, the root's among them, and what following them costs
record IsCosted (m : List (List ℕ)) (path : List Step) : Type 0 where
  ways : List (List Step)
  cost : ℕ
  on_path : AreOnPath m path ways
  some : 0 < length ways
  costs : CostOf m ways cost

-- one more step to a pointer word, which denotes a tree
word_costed : (m : List (List ℕ)) (done : List Step) (step : Step) (level s w : ℕ) (v : Tree) → IsCosted m done
    → ReachesSpot m (done ++ step ∷ []) level (word s w) → DenotesAt m (word s w) v → IsCosted m (done ++ step ∷ [])
word_costed m done step level s w v k next h =
    let own = own_cost m s w v h.0 h.1 h.2 in
    record {
      ways = k.ways ++ (done ++ step ∷ []) ∷ [];
      cost = k.cost + own.0;
      on_path = on_word m done k.ways step level s w k.on_path next;
      some = omega (arith, length-append k.ways ((done ++ step ∷ []) ∷ []));
      costs = cost_last m k.ways (done ++ step ∷ []) level s w own.0 k.cost k.costs next own.1;
    }

-- one more step to a spot that has a tree
step_costed : (m : List (List ℕ)) (done : List Step) (step : Step) (level : ℕ) (b : Spot) (v : Tree) → IsCosted m done
    → ReachesSpot m (done ++ step ∷ []) level b → DenotesAt m b v → IsCosted m (done ++ step ∷ [])
step_costed m done step level (word s w) v k next h = word_costed m done step level s w v k next h
step_costed m done step level b v k next h = search (rules, on_element)

-- one more step leads to a part of the tree, or to no node
data StepsOn (m : List (List ℕ)) (done : List Step) (step : Step) (rest : List Step) : Type 0 where
  on : (level : ℕ) (b : Spot) (v : Tree) → ReachesSpot m (done ++ step ∷ []) level b → DenotesAt m b v
      → IsCosted m (done ++ step ∷ []) → StepsOn m done step rest
  over : IsCosted m (done ++ step ∷ rest) → StepsOn m done step rest

steps_on : (m : List (List ℕ)) (done : List Step) (step : Step) (rest : List Step) (level : ℕ) (a : Spot) (u : Tree)
    → ReachesSpot m done level a → DenotesAt m a u → IsCosted m done → StepsOn m done step rest
steps_on m done step rest level a u c d k = by_part (part_at u step) refl
  where
    by_part : (o : Option Tree) → part_at u step ≡ o → StepsOn m done step rest
    by_part None e = over (record {
      ways = k.ways;
      cost = k.cost;
      on_path = on_no_node m done rest k.ways step level a k.on_path c
          (λ b g. let p = step_to_part m a step b u d g in absurd (cc (sym e, p.1)));
      some = k.some;
      costs = k.costs;
    })
    by_part (Some v) e =
        let p = part_to_step m a step u v d e in
        let next = (coming_last m done step (level + level_of p.0) p.0).1 (a, level, c, p.1, refl) in
        on (level + level_of p.0) p.0 v next p.2 (step_costed m done step (level + level_of p.0) p.0 v k next p.2)

-- From a spot that has a tree each path goes on so.
goes_on : (m : List (List ℕ)) (done rest : List Step) (level : ℕ) (a : Spot) (u : Tree) → ReachesSpot m done level a
    → DenotesAt m a u → IsCosted m done → IsCosted m (done ++ rest)
goes_on m done [] level a u c d k = subst (λ (p : List Step). IsCosted m p) (sym (append-nil done)) k
goes_on m done (step ∷ rest) level a u c d k = elim (steps_on m done step rest level a u c d k) [
  | over h ↦ h
  | on l b v next h more ↦ subst (λ (p : List Step). IsCosted m p) (append_assoc done (step ∷ []) rest)
      (goes_on m (done ++ step ∷ []) rest l b v next h more)
]

-- The pointers on each path of an accepted message keep to the limits.
pub path_charged : (m : List (List ℕ)) (words depth : ℕ) → IsWithin m words depth → (path : List Step)
    → KeepsToLimits m words depth path
path_charged m words depth (t, c, d, a) path =
    let h = a.denotes in
    let f = formed m 0 0 t c d h in
    let root = lead_word m 0 0 f.k f.r f.leads in
    let own = own_cost m 0 0 t c d h in
    let comes : ReachesSpot m [] 1 (word 0 0) = (root.0, 0, root.1, (refl, refl), refl) in
    let first : IsCosted m [] =
    record {
      ways = [] ∷ [];
      cost = own.0;
      on_path = on_root m root.0 root.1;
      some = omega arith;
      costs = (1, 0, 0, own.0, 0, comes, own.1, refl, omega arith);
    } in
    let k : IsCosted m path = goes_on m [] path 1 (word 0 0) t comes (c, d, h) first in
    let within = paths_cost_charge m t c d h k.ways k.cost (Rises-distinct k.ways k.on_path.rising) k.costs in (
      words - k.cost,
      record {
        ways = k.ways;
        on_path = k.on_path;
        some = k.some;
        cost = k.cost;
        costs = k.costs;
        shallow = λ p level s w i r (x, y, b, q, tag, found, tagged, past).
            omega (arith, a.few_levels, past, paths_within_depth m t c d h p level s w x y b q tag r found tagged);
        consumed = omega (arith, within, a.few_words);
      },
    )
