use Rattle.cap_spec.proofs.ProofNames.{rules, IsMessage}
use Rattle.cap_vet.proofs.NodeSteps.{next_node, no_part}
use Rattle.cap_vet.proofs.nodes.node.Node.child.Goals as goal
use Rattle.cap_spec.proofs.Lemmas.{step_to_part}

pub invariant_of-child : goal.invariant_of-child
invariant_of-child g c = search (rules, next_node)

pub step-requires : goal.step-requires
step-requires g c =
    let message : IsMessage _ = search rules in
    ∣ (_, _, message, c.found.ensures) ∣₁

pub returns-clause-part : goal.returns-clause-part
returns-clause-part g c = λ t h. search (rules, step_to_part)

pub returns-in_err-next-clause-part : goal.returns-in_err-next-clause-part
returns-in_err-next-clause-part g c = rw c.from_residual.ensures (search (rules, no_part))
