use Rattle.cap_spec.proofs.ProofNames.{DenotesAt, Tree}
use Rattle.cap_vet.specs.Views.{node_message, node_spot}
use Rattle.cap_text.proofs.Dumping.{ChildrenOut}
use Rattle.cap_text.proofs.tree.+put_children.Given as goal

abbrev pub decreases-put_children : goal.decreases-put_children
decreases-put_children g l = l.left

abbrev pub invariant-loop-i : goal.invariant-loop-i
invariant-loop-i g l =
    (t : Tree) → DenotesAt (g.M.Segments.segments (node_message l.node)) (node_spot l.node) t
    → ChildrenOut g.O.ByteOut l.level t l.kind (l.initial.out, l.initial.page) (l.out, l.page) l.i
