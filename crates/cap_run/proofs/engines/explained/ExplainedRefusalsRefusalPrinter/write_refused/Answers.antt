use Rattle.cap_spec.proofs.ProofNames.{[], refl}
use Rattle.cap_vet.specs.VetNames.{depth_of}
use Rattle.cap_explain.proofs.Reasons.{true_reason}
use Rattle.cap_run.specs.ExplainedJson.{FaultReason}
use Rattle.cap_run.proofs.engines.explained.ExplainedRefusalsRefusalPrinter.write_refused.Goals as goal

pub returns : goal.returns
returns g c = λ demands words h.
    let m = g.M.Segments.segments c.args.message.now in
    let depth = depth_of c.args.limits in
    let refusal = c.args.refusal.now in
    let reason : FaultReason demands m words depth refusal = true_reason demands m words depth refusal [] _ h in
    let (cycle, is_cycle, written) = c.write_fault_object.ensures demands words h reason in (
      _,
      record { fault = refusal; is_fault = h; reason = reason; cycle = cycle; is_cycle = is_cycle; line = refl; counts = refl },
      written,
    )
