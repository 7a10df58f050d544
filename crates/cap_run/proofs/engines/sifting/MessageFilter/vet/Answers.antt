use Rattle.cap_spec.proofs.ProofNames.{Bool, subst, sym}
use Rattle.cap_vet.specs.VetNames.{report_of}
use Rattle.cap_run.specs.Filtering.{ReportsMet, AllocatesMet}
use Rattle.cap_run.specs.RunNames.{FindsRejection, OrFaultIn, AllocatesIn}
use Rattle.cap_run.proofs.Sifting.{finds_met}
use Rattle.cap_run.proofs.engines.sifting.MessageFilter.vet.Goals as goal

pub returns-then-self : goal.returns-then-self
returns-then-self g c =
    let v = c.args.self.now in
    subst (λ (x : Bool). FindsRejection (OrFaultIn v.demands (ReportsMet x) v.limits) (AllocatesIn v.demands (AllocatesMet x) v.limits)
    (g.M.Segments.segments c.args.message.now) c.vet_exclusively.result) (sym c.if-self.true) c.vet_exclusively.ensures

pub returns-in-Ok : goal.returns-in-Ok
returns-in-Ok g c =
    let v = c.args.self.now in
    let met = c.in-Ok.ensures.ok in
    finds_met v.form v.demands v.limits (g.M.Segments.segments c.args.message.now) (report_of c.in-Ok.field-0) c.if-self.false met.1.strict met.0
