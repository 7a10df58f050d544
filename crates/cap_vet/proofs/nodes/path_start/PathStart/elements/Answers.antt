-- The list is where the first steps lead.
use Rattle.cap_vet.proofs.AtSomePlace.{arrival_elements, arrival_exists, arrival_levels, end_arrives}
use Rattle.cap_vet.proofs.nodes.path_start.PathStart.elements.Goals as goal
use Rattle.cap_spec.proofs.ProofNames.{rules}

pub returns-in-None-clause-elements : goal.returns-in-None-clause-elements
returns-in-None-clause-elements g c = search rules

pub invariant_of-result : goal.invariant_of-result
invariant_of-result g c =
    let m = g.M.Segments.segments c.args.self.now.message.now in
    let h = end_arrives _ _ _ c.in-To.at c.args.self.now.leads c.in-To.is in
    search (rules, arrival_levels, arrival_exists, arrival_elements)
