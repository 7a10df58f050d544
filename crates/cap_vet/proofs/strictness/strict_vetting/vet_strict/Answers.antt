use Rattle.cap_spec.specs.declared.StrictRefusal.TheVariants.{Refused}
use Rattle.cap_spec.proofs.ProofNames.{Err, ap, false, refl, rules, true, IsMessage}
use Rattle.cap_spec.proofs.Strict.Faults.{one_strict_fault, strict_not_fault}
use Rattle.cap_walk.specs.Limits.{depth_of, words_of}
use Rattle.cap_vet.proofs.Laxness.{fault_at_end, strict_at_end, within_of}
use Rattle.cap_walk.proofs.Verdicts.{vetted_within}
use Rattle.cap_vet.proofs.strictness.strict_vetting.vet_strict.Goals as goal
use Rattle.cap_spec.proofs.Lemmas.{strict_wider}

-- One fault, or none.

pub returns-in-Err-Refused-clause-accepts : goal.returns-in-Err-Refused-clause-accepts
returns-in-Err-Refused-clause-accepts g c = λ strict.
    absurd (strict_not_fault _ _ _ (Refused c.in-Err-Refused.refusal) strict
    (rw c.in-Err-Refused.field-0-is at c.in-Err-Refused.ensures.err))

pub returns-in-Err-Refused-clause-refuses : goal.returns-in-Err-Refused-clause-refuses
returns-in-Err-Refused-clause-refuses g c = λ r h.
    ap Err (rw c.in-Err-Refused.field-0-is (one_strict_fault _ _ _ (Refused c.in-Err-Refused.refusal) r
    (rw c.in-Err-Refused.field-0-is at c.in-Err-Refused.ensures.err) h))

pub invariant_of-result : goal.invariant_of-result
invariant_of-result g c =
    record { accepted = ∣ vetted_within _ c.args.limits _ c.in-Ok.ensures.ok.0 ∣₁ }

pub invariant_of-result-in-None : goal.invariant_of-result-in-None
invariant_of-result-in-None g c =
    let accepted = c.in-Ok.ensures.ok.0 in
    let (seen, t, known) = c.in-Ok.ensures.ok.1 in
    let none = c.in-None.ensures.none refl in
    record {
      strict = ∣ (strict_wider _ (words_of c.args.limits) (depth_of c.args.limits) 268435456 256
          (strict_at_end seen accepted t (rw none.1 at known) none.0) c.args.limits.few
          c.args.limits.shallow) ∣₁;
    }

pub returns-in-None : goal.returns-in-None
returns-in-None g c =
    let accepted = c.in-Ok.ensures.ok.0 in
    let (seen, t, known) = c.in-Ok.ensures.ok.1 in
    let none = c.in-None.ensures.none refl in
    let s = strict_at_end seen accepted t (rw none.1 at known) none.0 in
    search (rules, strict_not_fault)

pub returns-in-Some : goal.returns-in-Some
returns-in-Some g c =
    let m = g.M.Segments.segments c.args.message.now in
    let message : IsMessage m = search rules in
    let accepted = c.in-Ok.ensures.ok.0 in
    let (seen, t, known) = c.in-Ok.ensures.ok.1 in
    let fault = fault_at_end (record { strict = true; unamplified = false }) m (words_of c.args.limits)
    (depth_of c.args.limits) seen _ c.in-Some.fault message (within_of m _ _ _ accepted) known
    c.in-Some.ensures.some in
    search (rules, strict_not_fault, one_strict_fault)
