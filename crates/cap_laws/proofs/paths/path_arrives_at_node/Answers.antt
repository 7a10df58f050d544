use Rattle.cap_spec.proofs.Paths.Arrivals.{coming_to_node, node_to_coming}
use Rattle.cap_laws.proofs.paths.path_arrives_at_node.Goals as goal

pub returns-clause-node : goal.returns-clause-node
returns-clause-node c = coming_to_node

pub returns-clause-spot : goal.returns-clause-spot
returns-clause-spot c = node_to_coming
