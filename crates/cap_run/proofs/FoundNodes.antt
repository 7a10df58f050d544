-- What is reported of the node at a path of an accepted message.
use Rattle.std.proofs.Common.{IfNone}
use Rattle.cap_spec.proofs.ProofNames.{IfSome, List, MatchOption, None, Option, Some, ℕ, ◌≡◌, DenotesAt, get_text}
use Rattle.cap_spec.proofs.ProofNames.{Tree, rules}
use Rattle.cap_vet.specs.Views.{node_message, node_spot}
use Rattle.cap_vet.specs.declared.nodes.node.Node.{Node}
use Rattle.cap_frame.specs.declared.segments.Segments as segments

module _ {M : Type 0} (g : segments.Ghosts M) where
  -- what holds of the text of a node that was found, and of the text that there is none, holds of the text of the tree's node
  pub node_reported : (P : List ℕ → Type 0) (k : ℕ) (o : Option Tree) (w : M) (node : Option (Node M g))
      → IfSome node (λ n. (t : Tree) → DenotesAt (g.segments (node_message n)) (node_spot n) t → P (get_text k (Some t))) → IfNone node (P (get_text k None))
      → IfSome node (λ n. node_message n ≡ w) → MatchOption node (o ≡ None) (λ n. (u : Tree) × (o ≡ Some u) × DenotesAt (g.segments w) (node_spot n) u)
      → P (get_text k o)
  node_reported x1 k o w x5 found x7 x8 at = search rules
