use Rattle.cap_spec.proofs.ProofNames.{subst}
use Rattle.cap_vet.specs.VetNames.{IsDemandFault, Meets, depth_of, words_of}
use Rattle.cap_walk.specs.declared.demands.Demands.{Demands}
use Rattle.cap_run.proofs.engines.explain.filter_refusal.Goals as goal

pub returns-in-Ok : goal.returns-in-Ok
returns-in-Ok g c =
    let m = g.M.Segments.segments c.args.message.now in
    subst (λ (d : Demands). Meets d m (words_of c.args.limits) (depth_of c.args.limits)) c.filter_demands.ensures c.in-Ok.ensures.ok.1

pub returns-in-Err : goal.returns-in-Err
returns-in-Err g c =
    let m = g.M.Segments.segments c.args.message.now in
    subst (λ (d : Demands). IsDemandFault d m (words_of c.args.limits) (depth_of c.args.limits) c.in-Err.refusal) c.filter_demands.ensures
    c.in-Err.ensures.err
