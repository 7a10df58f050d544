-- At a node of an accepted message is a tree.
use Rattle.cap_spec.specs.Denoting.{places}
use Rattle.cap_spec.proofs.Paths.Depths.{denoted_depth, depth_of, each_depth, walk_depth}
use Rattle.cap_spec.proofs.ProofNames.{List, arith, refl, ℕ, ◌+◌, ◌≤◌, ∥∥₁_map, words_from, Spot, element, word}
use Rattle.cap_spec.proofs.ProofNames.{DenotesAt, Tree, struct, rules}
use Rattle.cap_spec.proofs.Verdicts.Deciding.{EachWithin, each_within, tree_within}
use Rattle.cap_vet.specs.Nodes.{IsNode}

-- a tree of at most 256 levels is there
abbrev ShallowAt : List (List ℕ) → Spot → Type 0
ShallowAt m a = (t : Tree) × DenotesAt m a t × (depth_of t ≤ 256)

shallow_node : (m : List (List ℕ)) (a : Spot) → IsNode m a → ShallowAt m a
shallow_node m a n =
    let r = walk_depth m (word 0 0) n.path n.comes.1 a n.tree (n.charge, n.depth, n.denotes) n.comes.3 in
    (r.0, r.1, omega (arith, r.2, denoted_depth m 0 0 n.tree n.charge n.depth n.denotes, n.shallow))

-- and so do the pointers of an element.
element_trees : (m : List (List ℕ)) (t b ds ps : ℕ) → ShallowAt m (element t b ds ps) → EachWithin m 256 (places t (b + ds) ps)
element_trees m t b ds ps (struct ws ts, h, le) = search (rules, each_depth)
element_trees m t b ds ps (x, h, le) = absurd h

-- The tree at a node.
pub tree_at_node : (m : List (List ℕ)) (a : Spot) → ∥ IsNode m a ∥₁ → (t : Tree) × DenotesAt m a t
tree_at_node m (word s w) h =
    let r = tree_within m 256 s w (∥∥₁_map h (λ n. search (rules, denoted_depth, shallow_node))) in
    (r.0, (r.1, r.2, r.3))
tree_at_node m (element t b ds ps) h =
    let r = each_within m 256 (places t (b + ds) ps) (∥∥₁_map h (λ n. element_trees m t b ds ps (shallow_node m (element t b ds ps) n))) in
    (struct (words_from m t b ds) r.0, (r.1, r.2, refl, r.3))
