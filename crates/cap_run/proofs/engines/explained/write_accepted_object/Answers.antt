use Rattle.cap_spec.proofs.ProofNames.{List, [], ap, append-nil, codes, inl, inr, refl, subst, sym, ℕ, ◌++◌, strict_verdict}
use Rattle.cap_vet.specs.VetNames.{IsDemandFault, depth_of, words_of}
use Rattle.cap_explain.proofs.Reasons.{true_reason}
use Rattle.cap_text.specs.JsonLines.{filter_member, number_members, object_start}
use Rattle.cap_text.specs.Writing.{Writes}
use Rattle.cap_trace.specs.NamedPaths.{fault_path}
use Rattle.cap_run.specs.Explained.{filter_demands}
use Rattle.cap_run.specs.ExplainedJson.{FaultReason}
use Rattle.cap_run.proofs.engines.explained.write_accepted_object.Goals as goal

pub write_filtered_object-requires : goal.write_filtered_object-requires
write_filtered_object-requires g c = (words_of c.args.limits, rw c.in-Some.is at c.filter_refusal.ensures)

pub returns-in-Some : goal.returns-in-Some
returns-in-Some g c =
    let m = g.M.Segments.segments c.args.message.now in
    let words = words_of c.args.limits in
    let depth = depth_of c.args.limits in
    let refusal = c.in-Some.refusal in
    let h : IsDemandFault filter_demands m words depth refusal = rw c.in-Some.is at c.filter_refusal.ensures in
    let reason : FaultReason filter_demands m words depth refusal = true_reason filter_demands m words depth refusal [] _ h in (
      filter_member (strict_verdict refusal) (fault_path filter_demands m words depth refusal h) reason.sentence,
      inr (record { fault = refusal; is_fault = h; reason = reason; text = refl }),
      c.write_filtered_object.ensures words h reason,
    )

pub returns-in-None : goal.returns-in-None
returns-in-None g c =
    let r = c.args.report.now in
    let numbers = object_start c.args.number (codes "accepted") ++ number_members r.charge r.depth r.pointers r.caps in (
      [],
      inl (rw c.in-None.is at c.filter_refusal.ensures, refl),
      subst (λ (t : List ℕ). Writes g.O.ByteOut c.args.out.now c.write_accepted_json.new.out c.write_accepted_json.result t)
          (sym (ap (λ (t : List ℕ). t ++ codes "}\n") (append-nil numbers))) c.write_accepted_json.ensures,
    )
