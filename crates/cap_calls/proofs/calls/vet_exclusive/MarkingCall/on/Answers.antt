-- What is marked is the view.
use Rattle.cap_spec.proofs.ProofNames.{Err, ap, ap₂, drop, inl, length, refl, subst, ◌+◌, ◌/◌, ◌∙◌, ◌≡◌, ◌≤◌, IsDisjoint}
use Rattle.cap_frame.specs.Bytes.{cut}
use Rattle.cap_vet.specs.VetNames.{IsExclusiveFault, IsVetted, marks_of}
use Rattle.cap_calls.specs.CallFindings.{accepted}
use Rattle.cap_calls.specs.CallNames.{ByteView, accepted_found, refused, exclusive, fault_found, Good, Found}
use Rattle.cap_calls.proofs.Marked.{fault_kept, marked_fault, refused_kept}
use Rattle.cap_calls.proofs.calls.vet_exclusive.MarkingCall.on.Goals as goal

pub returns-in-Ok-into_exclusive_in : goal.returns-in-Ok-into_exclusive_in
returns-in-Ok-into_exclusive_in c =
    let v = c.args.view.now in
    let old = c.args.marks.now in
    let new = c.into_exclusive_in.new.marks in
    let ok = c.in-Ok-into_exclusive_in.ensures.ok in
    let message = c.in-Ok.ensures.message in
    let disjoint = subst (λ (u : ByteView). IsDisjoint (cut u.sizes.now u.bytes.now)) message ok.0 in
    let enough = subst (λ (u : ByteView). marks_of (cut u.sizes.now u.bytes.now) ≤ length old) message ok.1 in
    let rest = subst (λ (u : ByteView). drop (marks_of (cut u.sizes.now u.bytes.now)) new ≡ drop
    (marks_of (cut u.sizes.now u.bytes.now)) old) message
    c.in-Ok-into_exclusive_in.ensures.rest in
    let numbers : c.marks_for-numbers.result ≡ marks_of (cut v.sizes.now v.bytes.now) = c.marks_for-numbers.ensures
    ∙ ap (λ n. n / 64 + 1) c.requires in
    let found = c.accepted.ensures ∙ ap₂ (accepted_found Good) numbers c.report-report.ensures.value in
    let count = ap (λ (z : Found). z.count) found in (
      accepted c.in-Ok.vetted.report c.in-Ok.ensures.ok.0 c.in-Ok.ensures.ok.1 (exclusive enough disjoint found),
      record { rest = rw count rest; kept = inl (ap (λ (z : Found). z.answer) found) },
    )

pub found_of_fault-requires : goal.found_of_fault-requires
found_of_fault-requires c = λ r e. c.in-Err-into_exclusive_in.ensures.not_refused r (ap Err e)

pub returns-in-Err-into_exclusive_in : goal.returns-in-Err-into_exclusive_in
returns-in-Err-into_exclusive_in c =
    let v = c.args.view.now in
    let m = cut v.sizes.now v.bytes.now in
    let old = c.args.marks.now in
    let new = c.into_exclusive_in.new.marks in
    let fault = c.in-Err-into_exclusive_in.fault in
    let report = c.in-Ok.vetted.report in
    let message = c.in-Ok.ensures.message in
    let vetted = subst (λ (u : ByteView). IsVetted (cut u.sizes.now u.bytes.now) report) message
    (subst (IsVetted (cut c.in-Ok.vetted.message.now.sizes.now c.in-Ok.vetted.message.now.bytes.now))
    c.report-report.ensures.value
    c.report-report.ensures.accepted) in
    let err = subst (λ (u : ByteView). IsExclusiveFault (cut u.sizes.now u.bytes.now) 268435456 256 (length old)
    fault) message
    c.in-Err-into_exclusive_in.ensures.err in
    let rest = subst (λ (u : ByteView). drop (marks_of (cut u.sizes.now u.bytes.now)) new ≡ drop
    (marks_of (cut u.sizes.now u.bytes.now)) old) message
    c.in-Err-into_exclusive_in.ensures.rest in
    let numbers : c.marks_for-numbers.result ≡ marks_of m = c.marks_for-numbers.ensures
    ∙ ap (λ n. n / 64 + 1) c.requires in
    let same = c.found_of_fault.ensures ∙ ap (λ n. fault_found n fault) numbers in (
      accepted report c.in-Ok.ensures.ok.0 c.in-Ok.ensures.ok.1
          (marked_fault (length old) m report fault c.found_of_fault.result vetted err same),
      fault_kept old new m fault c.found_of_fault.result same c.in-Err-into_exclusive_in.ensures.kept rest,
    )

pub returns-in-Err : goal.returns-in-Err
returns-in-Err c = (refused c.in-Err.refusal c.in-Err.ensures.err c.refused.ensures tt, refused_kept _ _ _ refl)
