use Rattle.cap_spec.proofs.ProofNames.{[], inl, inr, refl, strict_verdict}
use Rattle.cap_vet.specs.VetNames.{IsDemandFault, depth_of, words_of}
use Rattle.cap_explain.proofs.Reasons.{true_reason}
use Rattle.cap_text.specs.JsonLines.{filter_member}
use Rattle.cap_trace.specs.NamedPaths.{fault_path}
use Rattle.cap_run.specs.Explained.{filter_demands}
use Rattle.cap_run.specs.ExplainedJson.{FaultReason}
use Rattle.cap_run.proofs.engines.canonical_object.write_end.Goals as goal

pub write_refused_end-requires : goal.write_refused_end-requires
write_refused_end-requires g c = (words_of c.args.limits, rw c.in-Some.is at c.requires)

pub returns-in-Some : goal.returns-in-Some
returns-in-Some g c =
    let m = g.M.Segments.segments c.args.message.now in
    let words = words_of c.args.limits in
    let depth = depth_of c.args.limits in
    let refusal = c.in-Some.refusal in
    let h : IsDemandFault filter_demands m words depth refusal = rw c.in-Some.is at c.requires in
    let reason : FaultReason filter_demands m words depth refusal = true_reason filter_demands m words depth refusal [] _ h in (
      filter_member (strict_verdict refusal) (fault_path filter_demands m words depth refusal h) reason.sentence,
      inr (record { fault = refusal; is_fault = h; reason = reason; text = refl }),
      c.write_refused_end.ensures words h reason,
    )

pub returns-in-None : goal.returns-in-None
returns-in-None g c = ([], inl (rw c.in-None.is at c.requires, refl), c.write_object_end.ensures)
