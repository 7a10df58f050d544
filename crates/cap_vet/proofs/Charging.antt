-- What a path arrives at, step by step, and what following the pointers on it costs.
use Rattle.cap_spec.proofs.Paths.Walks.{coming_last}
use Rattle.cap_spec.proofs.Pointers.Shapes.{structs_levels}
use Rattle.cap_spec.proofs.ProofNames.{List, None, Option, [], arith, inl, inr, length, length-append, refl, subst, ℕ}
use Rattle.cap_spec.proofs.ProofNames.{◌++◌, ◌+◌, ◌-◌, ◌<◌, ◌∷◌, ◌≡◌, ◌≤◌, leb_tells, PathFinds, Finds, rules}
use Rattle.cap_spec.proofs.ProofNames.{element_levels, AreShallow, IsFirstReason, IsComposite, AreOnPath, Charges}
use Rattle.cap_spec.proofs.ProofNames.{IsFaultOnPath, HasWord, segment_of, Costs, Reaches, Spot, StepsTo, element}
use Rattle.cap_spec.proofs.ProofNames.{word, IsDeepAt, levels_below, common_steps}
use Rattle.cap_spec.proofs.Verdicts.OnPath.{begins_itself, begins_longer, cost_last, on_element, on_no_node, on_root}
use Rattle.cap_spec.proofs.Verdicts.OnPath.{on_word, shallow_last}
use Rattle.cap_vet.specs.VetNames.{Kind, Reason, Refusal, Step, Item, Ptr, Arrives, IsFound, element_of, AddsPointer}
use Rattle.cap_vet.specs.VetNames.{KnowsLaxOnPath, Arrival, Found, LaxPointer}
use Rattle.cap_vet.proofs.NodeSteps.{comes_no_node}
use Rattle.cap_vet.proofs.PathLax.{lax_added, lax_same}

-- none of no paths is too deep
none_deep : (m : List (List ℕ)) (depth : ℕ) → AreShallow m depth []
none_deep m depth = λ p level s w i r. absurd i

-- the empty path reaches the root
root_reached : (m : List (List ℕ)) (root : ℕ) → HasWord m 0 0 root → Reaches m [] 1 0 0
root_reached m root has = (root, 0, has, (refl, refl), refl)

-- At the root,
pub arrives_root : (m : List (List ℕ)) (words depth root consumed : ℕ) (f : Found) (lax : Option LaxPointer) → HasWord m 0 0 root
    → IsFound m (word 0 0) f → Costs m 0 0 consumed → consumed ≤ words → ¬ IsDeepAt m depth 0 0 1 → AddsPointer m 0 0 1 None lax
    → Arrives m words depth [] (word 0 0) record { found = f; level = 1; consumed = consumed; pointers = 1; lax = lax }
arrives_root m words depth root consumed f lax has found costs within shallow adds = record {
  comes = root_reached m root has;
  found = found;
  ways = [] ∷ [];
  on_path = on_root m root has;
  some = omega arith;
  costs = (1, 0, 0, consumed, 0, root_reached m root has, costs, refl, omega arith);
  shallow = shallow_last m depth [] [] 1 0 0 (none_deep m depth) (root_reached m root has) shallow;
  within = within;
  pointers = refl;
  levels = omega arith;
  few = omega arith;
  lax = lax_added m [] [] [] 1 0 0 1 None lax (on_root _ _ has) (root_reached m root has) refl (λ q i l. absurd i) adds;
}

-- whose fault is the first on each path.
pub fault_root : (m : List (List ℕ)) (words depth root : ℕ) (path : List Step) (v : Reason) → HasWord m 0 0 root → IsFirstReason m words depth 0 0 0 1 v
    → IsFaultOnPath m words depth path record { segment = 0; word = 0; reason = v; pointers = 1 }
fault_root m words depth root path v has reason = record {
  way = [];
  begin = (path, refl);
  before = [];
  level = 1;
  charge = 0;
  reached = root_reached m root has;
  on_path = on_root m root has;
  costs = refl;
  within = omega arith;
  shallow = none_deep m depth;
  reason = reason;
  pointers = refl;
}

-- where a path comes to with one step more
pub next_comes : (m : List (List ℕ)) (words depth : ℕ) (path : List Step) (a : Spot) (at : Arrival) (step : Step)
    (s w : ℕ) → Arrives m words depth path a at → StepsTo m a step (word s w)
    → Reaches m (path ++ step ∷ []) (at.level + 1) s w
next_comes m words depth path a at step s w h g = (coming_last m path step _ _).1 (a, at.level, h.comes, g, refl)

-- What a path within the depth limit comes to takes no level past it.
shallow_here : (m : List (List ℕ)) (words depth : ℕ) (path : List Step) (s w k t b q tag : ℕ) (at : Arrival)
    → Arrives m words depth path (word s w) at → Finds m s w k t b q → (IsComposite q → HasWord m t b tag)
    → at.level + levels_below q tag ≤ depth
shallow_here m words depth path s w k t b q tag at h f tagged = elim (leb_tells (at.level + levels_below q tag) depth) [
  | inl le ↦ le.1
  | inr over ↦ absurd (h.shallow path at.level s w (h.on_path.all path at.level s w (begins_itself path) h.comes) h.comes
      (k, t, b, q, tag, f, tagged, over.1))
]

-- So its pointers are at most one level past the limit,
low_word : (m : List (List ℕ)) (words depth : ℕ) (path : List Step) (a : Spot) (at : Arrival) (step : Step) (s w : ℕ)
    → Arrives m words depth path a at → StepsTo m a step (word s w) → at.level ≤ depth
low_word m words depth path (element t b ds ps) at step s w h g = h.levels
low_word m words depth path (word s' w') at (Ptr i) s w h (k, t, b, q, tag, ds, ps, f, lt, e) =
    let l = shallow_here m words depth path s' w' k t b q tag at h f.finds f.tagged in omega (arith, l)
low_word m words depth path (word s' w') at (Item i) s w h (inl (k, t, b, q, tag, n, f, lt, e)) =
    let l = shallow_here m words depth path s' w' k t b q tag at h f.finds f.tagged in omega (arith, l)
low_word m words depth path (word s' w') at (Item i) s w h (inr (k, t, b, q, tag, n, ds, ps, f, lt, e)) = absurd (cc e)

-- a list with elements takes a level for them
some_elements : (i n : ℕ) → i < n → element_levels n ≡ 1
some_elements i n h = search rules

-- and its elements are within it.
low_element : (m : List (List ℕ)) (words depth : ℕ) (path : List Step) (a : Spot) (at : Arrival) (step : Step) (t b ds ps : ℕ)
    → Arrives m words depth path a at → StepsTo m a step (element t b ds ps) → at.level + 1 ≤ depth
low_element m words depth path (word s' w') at (Item i) t b ds ps h (inl (k, t', b', q, tag, n, f, lt, e)) = absurd (cc e)
low_element m words depth path (word s' w') at (Item i) t b ds ps h (inr (k, t', b', q, tag, n, d, p, f, lt, e)) =
    let l = shallow_here m words depth path s' w' k t' b' q tag at h f.finds f.tagged in
    omega (arith, l, structs_levels f.shape, some_elements i n lt)
low_element m words depth path a at step t b ds ps h g = search rules

-- A path comes to no level past the one after the limit.
pub arrives_low : (m : List (List ℕ)) (words depth : ℕ) (path : List Step) (a : Spot) (at : Arrival)
    → Arrives m words depth path a at → (at.level ≤ depth + 1) × (at.pointers ≤ depth + 1)
arrives_low m words depth path a at h = search rules

-- One step on at a pointer word,
pub arrives_word : (m : List (List ℕ)) {words depth : ℕ} (path : List Step) (a : Spot) (at : Arrival) (step : Step)
    {s w cost : ℕ} {f : Found} (lax : Option LaxPointer) → Arrives m words depth path a at → StepsTo m a step (word s w)
    → IsFound m (word s w) f → Costs m s w cost → cost ≤ words - at.consumed → ¬ IsDeepAt m depth s w (at.level + 1)
    → AddsPointer m s w (at.pointers + 1) at.lax lax
    → Arrives m words depth (path ++ step ∷ []) (word s w)
    record { found = f; level = at.level + 1; consumed = at.consumed + cost; pointers = at.pointers + 1; lax = lax }
arrives_word m {words} {depth} path a at step {s} {w} {cost} lax h g found costs within shallow adds =
    let r : Reaches m (path ++ step ∷ []) (at.level + 1) s w = next_comes m words depth path a at step s w h g in
    let l = length-append h.ways ((path ++ step ∷ []) ∷ []) in
    record {
      comes = r;
      found = found;
      ways = h.ways ++ (path ++ step ∷ []) ∷ [];
      on_path = on_word m path h.ways step (at.level + 1) s w h.on_path r;
      some = omega (arith, l);
      costs = cost_last m h.ways (path ++ step ∷ []) (at.level + 1) s w cost at.consumed h.costs r costs;
      shallow = shallow_last m depth h.ways (path ++ step ∷ []) (at.level + 1) s w h.shallow r shallow;
      within = omega (arith, within, h.within);
      pointers = omega (arith, l, h.pointers);
      levels = omega (arith, low_word m words depth path a at step s w h g);
      few = omega (arith, h.few);
      lax = lax_added m path (step ∷ []) h.ways (at.level + 1) s w (at.pointers + 1) at.lax lax
          (on_word m path h.ways step (at.level + 1) s w h.on_path r) r (omega (arith, l, h.pointers)) h.lax adds;
    }

-- whose fault is the first,
pub fault_word : (m : List (List ℕ)) (words depth : ℕ) (path : List Step) (a : Spot) (at : Arrival) (step : Step)
    (s w : ℕ) (v : Reason) → Arrives m words depth path a at → StepsTo m a step (word s w)
    → IsFirstReason m words depth at.consumed s w (at.level + 1) v → IsFaultOnPath m words depth
    (path ++ step ∷ []) record { segment = s; word = w; reason = v; pointers = at.pointers + 1 }
fault_word m words depth path a at step s w v h g reason =
    let r : Reaches m (path ++ step ∷ []) (at.level + 1) s w = next_comes m words depth path a at step s w h g in
    record {
      way = path ++ step ∷ [];
      begin = begins_itself (path ++ step ∷ []);
      before = h.ways;
      level = at.level + 1;
      charge = at.consumed;
      reached = r;
      on_path = on_word m path h.ways step (at.level + 1) s w h.on_path r;
      costs = h.costs;
      within = h.within;
      shallow = h.shallow;
      reason = reason;
      pointers = omega (arith, h.pointers, length-append h.ways ((path ++ step ∷ []) ∷ []));
    }

-- and at an element.
pub arrives_element : (m : List (List ℕ)) (words depth : ℕ) (path : List Step) (a : Spot) (at : Arrival) (step : Step)
    (t b ds ps : ℕ) (lax : Option LaxPointer) → at.lax ≡ lax → Arrives m words depth path a at → StepsTo m a step (element t b ds ps)
    → t < length m → b + ds + ps ≤ length (segment_of m t) → Arrives m words depth (path ++ step ∷ []) (element t b ds ps)
    record at { found = element_of t b ds ps; level = at.level + 1; lax = lax }
arrives_element m words depth path a at step t b ds ps lax e h g exists inside =
    let c = (coming_last m path step (at.level + 1) (element t b ds ps)).1 (a, at.level, h.comes, g, refl) in
    record {
      comes = c;
      found = search rules;
      ways = h.ways;
      on_path = on_element m path h.ways step (at.level + 1) t b ds ps h.on_path c;
      some = h.some;
      costs = h.costs;
      shallow = h.shallow;
      within = h.within;
      pointers = h.pointers;
      levels = low_element m words depth path a at step t b ds ps h g;
      few = omega (arith, h.few);
      lax = subst (λ o. KnowsLaxOnPath m (path ++ step ∷ []) h.ways o) e (lax_same m path (step ∷ []) h.ways at.lax h.lax);
    }

-- The first fault on the beginning of a path is the first on the path.
pub fault_longer : {m : List (List ℕ)} {words depth : ℕ} {done : List Step} (rest : List Step) {path : List Step} {r : Refusal}
    → done ++ rest ≡ path → IsFaultOnPath m words depth done r → IsFaultOnPath m words depth path r
fault_longer rest e f = grind (arith, common_steps, begins_longer)

-- What was charged where a step leads to no node.
pub charges_no_node : {m : List (List ℕ)} {words depth : ℕ} {done : List Step} (rest : List Step) {path : List Step} (step : Step) {a : Spot}
    {at : Arrival} → done ++ step ∷ rest ≡ path → Arrives m words depth done a at
    → ((b : Spot) → StepsTo m a step b → ⊥) → Charges m words depth path (words - at.consumed)
charges_no_node {m} {done} rest step {a} {at} e h none = record {
  ways = h.ways;
  on_path = subst (λ x. AreOnPath m x h.ways) e (on_no_node m done rest h.ways step at.level a h.on_path h.comes none);
  some = h.some;
  cost = at.consumed;
  costs = h.costs;
  shallow = h.shallow;
  consumed = omega (arith, h.within);
}

pub arrives_no_node : {m : List (List ℕ)} {words depth : ℕ} {done : List Step} (rest : List Step) {path : List Step} (step : Step) {a : Spot}
    {at : Arrival} → path ≡ done ++ step ∷ rest → Arrives m words depth done a at
    → ((b : Spot) → StepsTo m a step b → ⊥) → (k : Kind) (t b n : ℕ) → PathFinds m path k t b n → ⊥
arrives_no_node {m} {done} rest step {a} e h none k t b n
    (level, spot, comes, lies) = comes_no_node m done rest step a e h.comes none level spot comes
