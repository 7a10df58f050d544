-- The first step that is left is read.
use Rattle.cap_spec.proofs.ProofNames.{Some, [], ap, refl, ◌∙◌, ◌∷◌, take_rest}
use Rattle.cap_path.proofs.StepsLeft.{first_read, first_slash}
use Rattle.cap_path.proofs.steps.PathSteps.next.Goals as goal

pub returns-in-Ok-clause-some : goal.returns-in-Ok-clause-some
returns-in-Ok-clause-some c = λ step more left.
    let rest = c.args.self.now.rest.now in
    let first = first_read rest c.in-Ok.end c.in-Ok.step step more c.in-Ok.ensures.ok left.0 left.1 in
    (ap Some first.0, (left.0.1, take_rest rest c.in-Ok.end ∙ first.1))

pub returns-in-Err-clause-some : goal.returns-in-Err-clause-some
returns-in-Err-clause-some c = λ step more left.
    let first = first_slash c.args.self.now.rest.now step more left.1 in
    absurd ((c.in-Err.ensures.bad [] tt refl first.0).none (step ∷ more, left.0, left.1))
