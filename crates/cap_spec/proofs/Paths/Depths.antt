-- No path leads deeper than the depth of the root's tree.
use Rattle.cap_spec.specs.Denoting.{places}
use Rattle.cap_spec.specs.Tree.{none}
use Rattle.cap_spec.proofs.Paths.Arrivals.{step_to_part}
use Rattle.cap_spec.proofs.Paths.PathCounts.{is_element, step_kind}
use Rattle.cap_spec.proofs.Paths.PathLists.{is_structs}
use Rattle.cap_spec.proofs.Pointers.Following.{one_lead}
use Rattle.cap_spec.proofs.Pointers.Shapes.{pointers_levels, scalars_levels, struct_levels, structs_levels}
use Rattle.cap_spec.proofs.ProofNames.{Bool, List, Some, [], ap, arith, false, max, subst, suc, sym, true, ℕ, ◌+◌, ◌<◌}
use Rattle.cap_spec.proofs.ProofNames.{◌∙◌, ◌∷◌, ◌≡◌, ◌≤◌, AreElements, DenoteEach, Denotes, Finds, element_levels}
use Rattle.cap_spec.proofs.ProofNames.{IsComposite, HasWord, PathLeads, Spot, level_of, word, DenotesAt, Tree, Trees}
use Rattle.cap_spec.proofs.ProofNames.{cap, more, null, part_at, pointers, scalars, struct, structs, tree_at}
use Rattle.cap_spec.proofs.ProofNames.{tree_count, levels_below, Step, Item, Ptr, rules, common_steps}
use Rattle.cap_spec.proofs.Trees.Finding.{found_depth}

-- the depth of a tree
abbrev mutual
  pub depth_of : Tree → ℕ
  depth_of null = 0
  depth_of (cap i) = 0
  depth_of (struct words ts) = 1 + depth_each ts
  depth_of (scalars c vs) = 1
  depth_of (pointers ts) = 1 + depth_each ts
  depth_of (structs d p es) = 1 + element_levels (tree_count es) + depth_elements es

  -- the greatest depth of some trees
  pub depth_each : Trees → ℕ
  depth_each none = 0
  depth_each (more t ts) = max (depth_of t) (depth_each ts)

  -- and of what is in elements
  pub depth_elements : Trees → ℕ
  depth_elements none = 0
  depth_elements (more (struct words ts) es) = max (depth_each ts) (depth_elements es)
  depth_elements (more x es) = depth_elements es

mutual
  -- what a word denotes has the depth of its tree
  pub denoted_depth : (m : List (List ℕ)) (s w : ℕ) (t : Tree) (c d : ℕ) → Denotes m s w t c d → d ≡ depth_of t
  denoted_depth m s w null c d h = h.1
  denoted_depth m s w (cap i) c d h = h.1
  denoted_depth m s w (struct ws ts) c d (k, t, b, q, tag, ds, ps, inner, deep, found, own, each) =
      omega (arith, found.depth, struct_levels found.object.shape, each_depth m (places t (b + ds) ps) ts inner deep each)
  denoted_depth m s w (scalars e vs) c d (k, t, b, q, tag, n, found, own) = search (rules, scalars_levels)
  denoted_depth m s w (pointers ts) c d (k, t, b, q, tag, n, inner, deep, found, each) =
      omega (arith, found.depth, pointers_levels found.object.shape, each_depth m (places t b n) ts inner deep each)
  denoted_depth m s w (structs ds ps es) c d (k, t, b, q, tag, n, inner, deep, found, each) =
      grind (arith, common_steps, structs_levels, elements_depth m t (b + 1) ds ps n es inner deep each)

  pub each_depth : (m : List (List ℕ)) (ps : List (ℕ × ℕ)) (ts : Trees) (c d : ℕ) → DenoteEach m ps ts c d
      → d ≡ depth_each ts
  each_depth m ps none c d h = h.2
  each_depth m ps (more t ts) c d (s, w, rest, c1, d1, c2, d2, begins, denotes, after, charge, depth) =
      grind (arith, common_steps, denoted_depth m s w t c1 d1 denotes, each_depth m rest ts c2 d2 after)

  pub elements_depth : (m : List (List ℕ)) (t b ds ps n : ℕ) (es : Trees) (c d : ℕ) → AreElements m t b ds ps n es c d
      → (n ≡ tree_count es) × (d ≡ depth_elements es)
  elements_depth m t b ds ps n none c d h = (h.0, h.2)
  elements_depth m t b ds ps n (more (struct ws ts) es) c d h =
      let (fewer, c1, d1, c2, d2, counted, own, each, after, charge, depth) = h in
      let a = each_depth m (places t (b + ds) ps) ts c1 d1 each in
      let r = elements_depth m t (b + ds + ps) ds ps fewer es c2 d2 after in
      grind (arith, common_steps)
  elements_depth m t b ds ps n (more x es) c d h = absurd h

-- the levels of a step to a part
abbrev level_if : Bool → ℕ
level_if true = element_levels 1
level_if false = 1

-- some elements take the levels of one
pub levels_of_some : (n : ℕ) → 0 < n → element_levels n ≡ element_levels 1
levels_of_some x0 lt = search rules

-- each of some trees is at most as deep as all
tree_depth : (ts : Trees) (i : ℕ) (u : Tree) → tree_at ts i ≡ Some u → depth_of u ≤ depth_each ts
tree_depth (more t ts) (suc i) u e = omega (arith, tree_depth ts i u e)
tree_depth x0 i u e = search rules

-- and so each of the elements of a struct list, which are structs
abbrev AreStructs : Trees → Type 0
AreStructs none = Unit {0}
AreStructs (more (struct words ts) es) = AreStructs es
AreStructs (more x es) = ⊥

element_depth : (es : Trees) (i : ℕ) (u : Tree) → AreStructs es → tree_at es i ≡ Some u
    → (depth_of u ≤ 1 + depth_elements es) × (0 < tree_count es)
element_depth (more (struct ws ts) es) (suc i) u a e = (omega (arith, element_depth es i u a e), omega arith)
element_depth x0 i u a e = search rules

elements_are_structs : (m : List (List ℕ)) (t b ds ps n : ℕ) (es : Trees) (c d : ℕ)
    → AreElements m t b ds ps n es c d → AreStructs es
elements_are_structs m t b ds ps n (more (struct ws ts) es) c d h =
    let (fewer, c1, d1, c2, d2, counted, own, each, after, charge, depth) = h in
    elements_are_structs m t (b + ds + ps) ds ps fewer es c2 d2 after
elements_are_structs m t b ds ps n x6 c d h = search rules

-- a part is less deep than its tree by the levels of the step
part_depth : (m : List (List ℕ)) (a : Spot) (t : Tree) (step : Step) (u : Tree) → DenotesAt m a t
    → part_at t step ≡ Some u → level_if (is_structs t) + depth_of u ≤ depth_of t
part_depth m a (struct ws ts) (Ptr i) u h e = omega (arith, tree_depth ts i u e)
part_depth m a (pointers ts) (Item i) u h e = omega (arith, tree_depth ts i u e)
part_depth m (word s w) (structs d p es) (Item i) u h e =
    search (rules, element_depth, elements_are_structs, levels_of_some)
part_depth m a t step u h e = search rules

-- the levels of a spot
spot_level : (b : Spot) → level_of b ≡ level_if (is_element b)
spot_level x0 = search rules

-- What is where a path leads is less deep than the tree of its first spot by the levels on the way.
pub walk_depth : (m : List (List ℕ)) (a : Spot) (path : List Step) (n : ℕ) (b : Spot) (t : Tree) → DenotesAt m a t
    → PathLeads m a path n b
    → (u : Tree) × DenotesAt m b u × (n + depth_of u ≤ depth_of t)
walk_depth m a [] n b t h g = (t, subst (λ (y : Spot). DenotesAt m y t) (sym g.1) h, omega (arith, g.0))
walk_depth m a (step ∷ path) n b t h (mid, below, goes, walks, level) =
    let r = step_to_part m a step mid t h goes in
    let k = step_kind m a step mid t h goes in
    let x : level_if (is_structs t) + depth_of r.0 ≤ depth_of t = part_depth m a t step r.0 h r.1 in
    let l : level_of mid ≡ level_if (is_structs t) = spot_level mid ∙ ap level_if k in
    let z = walk_depth m mid path below b r.0 r.2 walks in
    (z.0, z.1, omega (arith, z.2, x, l, level))

-- an object and the levels of its elements are within the depth of what its pointer denotes
pub object_depth : (m : List (List ℕ)) (s w : ℕ) (x : Tree) (c d k t b q tag : ℕ) → Denotes m s w x c d
    → Finds m s w k t b q → (IsComposite q → HasWord m t b tag)
    → 1 + levels_below q tag ≤ d
object_depth m s w x3 c d k t b q tag h f has = search (rules, one_lead, found_depth)
