use Rattle.cap_spec.proofs.Lemmas.{one_tree, one_refusal, refused_justified, within_not_refused}
use Rattle.cap_spec.proofs.ProofNames.{Err, ap, rules}
use Rattle.cap_walk.proofs.Verdicts.{vetted_within}
use Rattle.cap_vet.proofs.vetting.vet.Goals as goal

pub returns-clause-refuses : goal.returns-clause-refuses
returns-clause-refuses g c = λ r h.
    let a = c.in-Ok.ensures.ok.0 in
    absurd (within_not_refused _ _ _ r (a.0, _, _, a.1.within) h)

pub returns-clause-one : goal.returns-clause-one
returns-clause-one g c = λ t charge d h.
    let a = c.in-Ok.ensures.ok.0 in
    search (rules, one_tree)

pub returns-in-Err-Refused-clause-justified : goal.returns-in-Err-Refused-clause-justified
returns-in-Err-Refused-clause-justified g c = rw c.in-Err-Refused.field-0-is
    (refused_justified _ _ _ c.in-Err-Refused.refusal (rw c.in-Err-Refused.field-0-is at c.in-Err-Refused.ensures.err))

pub returns-in-Err-Refused-clause-accepts : goal.returns-in-Err-Refused-clause-accepts
returns-in-Err-Refused-clause-accepts g c = λ within.
    absurd (search (rules, within_not_refused, within))

pub returns-in-Err-Refused-clause-refuses : goal.returns-in-Err-Refused-clause-refuses
returns-in-Err-Refused-clause-refuses g c = λ r h.
    ap Err (rw c.in-Err-Refused.field-0-is (one_refusal _ _ _ c.in-Err-Refused.refusal r (search rules) h))

pub invariant_of-result : goal.invariant_of-result
invariant_of-result g c =
    record { accepted = ∣ vetted_within _ c.args.limits _ c.in-Ok.ensures.ok.0 ∣₁ }
