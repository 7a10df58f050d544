use Rattle.cap_spec.proofs.ProofNames.{rules}
use Rattle.cap_vet.proofs.NodeSteps.{node_not_wrong}
use Rattle.cap_vet.proofs.nodes.node.Node.found.Goals as goal

pub found_at-requires-clause-right : goal.found_at-requires-clause-right
found_at-requires-clause-right g c = search (rules, node_not_wrong)
