use Rattle.cap_spec.proofs.ProofNames.{rules, IsMessage}
use Rattle.cap_vet.proofs.nodes.found.found_followed.Goals as goal

pub returns : goal.returns
returns g c =
    let message : IsMessage (g.M.Segments.segments c.args.message.now) = search rules in
    c.found_of.ensures (g.M.Segments.segments c.args.message.now) c.args.s c.args.w message c.in-Ok.ensures.ok
