use Rattle.cap_spec.proofs.ProofNames.{rules}
use Rattle.cap_vet.proofs.NodeSteps.{root_comes, root_inside, root_node}
use Rattle.cap_vet.proofs.nodes.vetted.Vetted.root.Goals as goal

pub invariant_of-result : goal.invariant_of-result
invariant_of-result g c = search (rules, root_inside, root_node)

pub returns-clause-comes : goal.returns-clause-comes
returns-clause-comes g c = root_comes (g.M.Segments.segments c.args.self.now.message.now) (search (rules, root_inside))
