use Rattle.cap_spec.proofs.ProofNames.{rules}
use Rattle.std.proofs.Math.Logic.{∥∥₁_map}
use Rattle.cap_vet.proofs.GivenPaths.{end_as}
use Rattle.cap_vet.proofs.AtSomePlace.{end_found}
use Rattle.cap_vet.proofs.nodes.getting.given_within.Goals as goal

-- What looks alone find is given, or else what any following finds.

pub returns-in-Some-clause-given : goal.returns-in-Some-clause-given
returns-in-Some-clause-given g c = λ most deepest steps left under deep.
    let m = g.M.Segments.segments c.args.message.now in
    c.given.ensures.given most deepest steps (search (rules, end_as))

pub given-requires-in-None : goal.given-requires-in-None
given-requires-in-None g c = search (rules, end_found)

pub returns-in-None-clause-given : goal.returns-in-None-clause-given
returns-in-None-clause-given g c = λ most deepest steps left under deep.
    let m = g.M.Segments.segments c.args.message.now in
    c.given-in-None.ensures.given most deepest steps (search (rules, end_as))

pub given-requires : goal.given-requires
given-requires g c = record { found = ∥∥₁_map c.in-Some.ensures.leads (λ r. (r.1, r.2.found)) }
