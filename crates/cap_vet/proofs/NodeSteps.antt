-- What nodes of an accepted message keep.
use Rattle.cap_spec.proofs.Lemmas.{HasWord-at, HasWord-inside, lead_word, part_to_step, comes_beyond, coming_last}
use Rattle.cap_spec.proofs.Lemmas.{formed, reached_not_wrong}
use Rattle.cap_spec.proofs.Paths.Arrivals.{node_to_coming}
use Rattle.cap_spec.proofs.ProofNames.{List, None, Option, Some, [], length, refl, subst, ℕ, ◌++◌, ◌+◌, ◌<◌, ◌∷◌, ◌≡◌}
use Rattle.cap_spec.proofs.ProofNames.{∥∥₁_elim, ∥∥₁_map, props, Denotes, Wrong, HasWord, segment_of, ReachesSpot}
use Rattle.cap_spec.proofs.ProofNames.{Spot, StepsTo, level_of, word, DenotesAt, Tree, node_at, part_at}
use Rattle.cap_vet.specs.Nodes.{IsNode}
use Rattle.cap_vet.specs.VetNames.{Reason, Step, IsVetted, Report}

-- the root word of a tree is there
root_word : (m : List (List ℕ)) (t : Tree) (c d : ℕ) → Denotes m 0 0 t c d → (p : ℕ) × HasWord m 0 0 p
root_word m t c d h = let f = formed m 0 0 t c d h in lead_word m 0 0 f.k f.r f.leads

-- the root is a node,
pub root_node : (m : List (List ℕ)) (r : Report) → ∥ IsVetted m r ∥₁ → ∥ IsNode m (word 0 0) ∥₁
root_node m r h = ∥∥₁_map h (λ (t, a). record {
  tree = t;
  charge = r.charge;
  depth = r.depth;
  denotes = a.within.denotes;
  shallow = a.within.few_levels;
  path = [];
  level = 1;
  comes = (let p = root_word m t r.charge r.depth a.within.denotes in (p.0, 0, p.1, (refl, refl), refl));
})

pub root_inside : (m : List (List ℕ)) (r : Report) → ∥ IsVetted m r ∥₁ → 0 < length (segment_of m 0)
root_inside m r h =
    let one : IsProp (0 < length (segment_of m 0)) = hlevel props in
    ∥∥₁_elim h one (λ (t, a). let p = root_word m t r.charge r.depth a.within.denotes in HasWord-inside m 0 0 p.0 p.1)

pub root_comes : (m : List (List ℕ)) → 0 < length (segment_of m 0) → ReachesSpot m [] 1 (word 0 0)
root_comes m h = let p = HasWord-at m 0 0 h in (p.0, 0, p.1, (refl, refl), refl)

-- and so is what a step leads to.
pub next_node : (m : List (List ℕ)) (a b : Spot) (step : Step) → ∥ IsNode m a ∥₁ → StepsTo m a step b → ∥ IsNode m b ∥₁
next_node m a b step h g = ∥∥₁_map h (λ n. record {
  tree = n.tree;
  charge = n.charge;
  depth = n.depth;
  denotes = n.denotes;
  shallow = n.shallow;
  path = n.path ++ step ∷ [];
  level = n.level + level_of b;
  comes = (coming_last m n.path step (n.level + level_of b) b).1 (a, n.level, n.comes, g, refl);
})

-- nothing is wrong at a node
pub node_not_wrong : (m : List (List ℕ)) (s w : ℕ) (v : Reason) → ∥ IsNode m (word s w) ∥₁ → Wrong m s w v → ⊥
node_not_wrong m s w v h x =
    let one : IsProp ⊥ = hlevel props in
    ∥∥₁_elim h one (λ n. reached_not_wrong m n.tree n.charge n.depth n.denotes n.path n.level s w v n.comes x)

-- and where it leads to no node, there is no part
pub no_part : (m : List (List ℕ)) (a : Spot) (step : Step) (t : Tree) → ((b : Spot) → StepsTo m a step b → ⊥) → DenotesAt m a t → part_at t step ≡ None
no_part m a step t none h = go (part_at t step) refl
  where
    go : (o : Option Tree) → part_at t step ≡ o → part_at t step ≡ None
    go None e = e
    go (Some u) e = let r = part_to_step m a step t u h e in absurd (none r.0 r.1)

-- a path that leads to no node has no node
pub no_node : (m : List (List ℕ)) (path : List Step) (t : Tree) (c d : ℕ)
    → ((level : ℕ) (a : Spot) → ReachesSpot m path level a → ⊥) → Denotes m 0 0 t c d → node_at t path ≡ None
no_node m path t c d none h = go (node_at t path) refl
  where
    go : (o : Option Tree) → node_at t path ≡ o → node_at t path ≡ None
    go None e = e
    go (Some u) e = let r = node_to_coming m t c d h path u e in absurd (none r.0 r.1 r.2)

-- where the path up to here leads, and the next step leads to no node, the whole path does
pub comes_no_node : (m : List (List ℕ)) {path : List Step} (done rest : List Step) (step : Step) {level : ℕ} (a : Spot)
    → path ≡ done ++ step ∷ rest → ReachesSpot m done level a
    → ((b : Spot) → StepsTo m a step b → ⊥) → (level' : ℕ) (b : Spot) → ReachesSpot m path level' b → ⊥
comes_no_node m done rest step {level} a e h none level' b g =
    let g' : ReachesSpot m (done ++ step ∷ rest) level' b = subst (λ u. ReachesSpot m u level' b) e g in
    let w = (comes_beyond m done (step ∷ rest) level level' a b h g').1 in none w.0 w.2

-- one more step
pub comes_on : (m : List (List ℕ)) (done : List Step) (step : Step) (level : ℕ) (a b : Spot) → ReachesSpot m done level a
    → StepsTo m a step b → (level' : ℕ) × ReachesSpot m (done ++ step ∷ []) level' b
comes_on m done step level a b h g = (level + level_of b, (coming_last m done step _ _).1 (a, level, h, g, refl))
