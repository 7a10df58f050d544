use Rattle.cap_vet.proofs.nodes.view.View.scalar.Goals as goal
use Rattle.cap_spec.proofs.ProofNames.{rules}
use Rattle.cap_spec.proofs.Trees.Readings.{value_past, value_there}

pub returns-then-i-count : goal.returns-then-i-count
returns-then-i-count g c = search (rules, value_past)

pub returns : goal.returns
returns g c = search (rules, value_there)
