use Rattle.cap_spec.proofs.ProofNames.{rules}
use Rattle.cap_vet.proofs.NodeTrees.{tree_at_node}
use Rattle.cap_vet.proofs.Shown.{lies_own}
use Rattle.cap_vet.proofs.nodes.node.Node.view.Goals as goal

pub returns : goal.returns
returns g c = search (rules, tree_at_node, lies_own)
