-- A pointer word that a longer path reaches again denotes no tree.
use Rattle.cap_spec.specs.Tree.{none}
use Rattle.cap_spec.proofs.Paths.Arrivals.{coming_to_node, node_parts, path_to_node}
use Rattle.cap_spec.proofs.Paths.Walks.{comes_beyond}
use Rattle.cap_spec.proofs.ProofNames.{List, Some, [], ap, arith, suc, ℕ, ◌++◌, ◌+◌, ◌<◌, ◌∷◌, ◌≡◌, ◌≤◌, Denotes}
use Rattle.cap_spec.proofs.ProofNames.{PathLeads, Reaches, word, Tree, Trees, cap, more, node_at, null, part_at}
use Rattle.cap_spec.proofs.ProofNames.{pointers, scalars, struct, structs, tree_at, Step, rules}
use Rattle.cap_spec.proofs.Trees.OneTree.{Same, one_tree}

-- how many nodes a tree has
abbrev mutual
  pub weight : Tree → ℕ
  weight null = 1
  weight (cap i) = 1
  weight (struct words ts) = 1 + weights ts
  weight (scalars e values) = 1
  weight (pointers ts) = 1 + weights ts
  weight (structs d p es) = 1 + weights es

  pub weights : Trees → ℕ
  weights none = 0
  weights (more t ts) = weight t + weights ts

-- a tree of a list has at most the nodes of the list
tree_below : (ts : Trees) (i : ℕ) (u : Tree) → tree_at ts i ≡ Some u → weight u ≤ weights ts
tree_below (more t ts) (suc i) u e = omega (arith, tree_below ts i u e)
tree_below x0 i u e = search rules

-- a part has fewer nodes
part_below : (t : Tree) (step : Step) (u : Tree) → part_at t step ≡ Some u → weight u < weight t
part_below t step u e = search (rules, tree_below)

-- a node has at most the nodes of the tree
node_below : (t : Tree) (path : List Step) (u : Tree) → node_at t path ≡ Some u → weight u ≤ weight t
node_below t [] u e = let f : t ≡ u = cc e in omega (arith, ap weight f)
node_below t (step ∷ path) u e =
    let r = node_parts t u step path e in
    omega (arith, part_below t step r.0 r.1, node_below r.0 path u r.2)

-- and fewer where it is another
pub proper_node_below : (t : Tree) (step : Step) (path : List Step) (u : Tree) → node_at t (step ∷ path) ≡ Some u
    → weight u < weight t
proper_node_below t step path u e =
    let r = node_parts t u step path e in
    omega (arith, part_below t step r.0 r.1, node_below r.0 path u r.2)

-- A pointer word from which some steps lead back to it denotes no tree.
pub no_tree_in_cycle : (m : List (List ℕ)) (s w : ℕ) (step : Step) (path : List Step) (n : ℕ)
    → PathLeads m (word s w) (step ∷ path) n (word s w)
    → (t : Tree) (c d : ℕ) → Denotes m s w t c d → ⊥
no_tree_in_cycle m s w step path n g t c d h =
    let r = path_to_node m (word s w) (step ∷ path) n (word s w) t (c, d, h) g in
    let e : Same t r.0 c r.2.0 d r.2.1 = one_tree m s w t r.0 c d r.2.0 r.2.1 h r.2.2 in
    omega (arith, proper_node_below t step path r.0 r.1, ap weight e.part)

-- Where a path reaches a pointer word, and a longer path through it the same word again, that word denotes no tree,
pub no_tree_at_cycle : (m : List (List ℕ)) (path : List Step) (step : Step) (on : List Step) (l l' s w : ℕ)
    → Reaches m path l s w → Reaches m (path ++ step ∷ on) l' s w → (t : Tree) (c d : ℕ) → Denotes m s w t c d → ⊥
no_tree_at_cycle m path step on l l' s w g h =
    let r = comes_beyond m path (step ∷ on) l l' (word s w) (word s w) g h in no_tree_in_cycle m s w step on r.0 r.1

-- and the root denotes none.
pub no_tree_above_cycle : (m : List (List ℕ)) (path : List Step) (step : Step) (on : List Step) (l l' s w : ℕ)
    → Reaches m path l s w → Reaches m (path ++ step ∷ on) l' s w → (t : Tree) (c d : ℕ) → Denotes m 0 0 t c d → ⊥
no_tree_above_cycle m path step on l l' s w g h t c d x =
    let r = coming_to_node m t c d x path l (word s w) g in
    no_tree_at_cycle m path step on l l' s w g h r.0 r.2.0 r.2.1 r.2.2
