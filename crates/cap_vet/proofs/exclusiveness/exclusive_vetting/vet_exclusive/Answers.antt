use Rattle.cap_spec.proofs.Disjoint.Overlaps.{none_of_disjoint, one_overlap}
use Rattle.cap_spec.proofs.ProofNames.{Err, ap, inl, inr, rules}
use Rattle.cap_vet.proofs.Demanding.{no_fault_under, one_fault_under}
use Rattle.cap_vet.proofs.ExclusiveFaults.{only_memory, only_overlap}
use Rattle.cap_vet.proofs.exclusiveness.exclusive_vetting.vet_exclusive.Goals as goal
use Rattle.cap_spec.proofs.Disjoint.Bounds.{charge_below_words}

pub returns-in_default-clause-refuses : goal.returns-in_default-clause-refuses
returns-in_default-clause-refuses g c = search (rules, one_fault_under, no_fault_under)

pub returns-in_default-clause-accepts : goal.returns-in_default-clause-accepts
returns-in_default-clause-accepts g c = search (rules, only_memory)

pub returns-in_default-clause-names : goal.returns-in_default-clause-names
returns-in_default-clause-names g c = λ s w n met first. elim (only_overlap c.args.demands _ _ _ c.without_marks-in_default.result
    s w n c.without_marks-in_default.ensures met first) [ inl e ↦ inl (ap Err e) | inr e ↦ inr (ap Err e) ]

pub returns-in-Ok-default-None-clause-bound : goal.returns-in-Ok-default-None-clause-bound
returns-in-Ok-default-None-clause-bound g c =
    let ok = rw c.in-Ok-default-None.field-0-1-is at c.in-Ok-default-None.ensures.ok in
    search (rules, charge_below_words)

pub returns-in-Ok-default-None-clause-refuses : goal.returns-in-Ok-default-None-clause-refuses
returns-in-Ok-default-None-clause-refuses g c = λ r h. absurd (search (rules, no_fault_under))

pub returns-in-Ok-default-None-clause-names : goal.returns-in-Ok-default-None-clause-names
returns-in-Ok-default-None-clause-names g c = λ s w n met first.
    let ok = rw c.in-Ok-default-None.field-0-1-is at c.in-Ok-default-None.ensures.ok in
    absurd (none_of_disjoint _ ok.1 first.path first.first.holds)

pub returns-in-Ok-default-Some-clause-refuses : goal.returns-in-Ok-default-Some-clause-refuses
returns-in-Ok-default-Some-clause-refuses g c = λ r h. absurd (search (rules, no_fault_under))

pub returns-in-Ok-default-Some-clause-accepts : goal.returns-in-Ok-default-Some-clause-accepts
returns-in-Ok-default-Some-clause-accepts g c = λ met disjoint.
    let ok = rw c.in-Ok-default-Some.field-0-1-is at c.in-Ok-default-Some.ensures.ok in
    absurd (none_of_disjoint _ disjoint ok.1.path ok.1.first.holds)

pub returns-in-Ok-default-Some-clause-names : goal.returns-in-Ok-default-Some-clause-names
returns-in-Ok-default-Some-clause-names g c = λ s w n met first.
    let ok = rw c.in-Ok-default-Some.field-0-1-is at c.in-Ok-default-Some.ensures.ok in
    (let same = one_overlap (g.M.Segments.segments c.args.message.now) _ _ _ s w n ok.1 first in inl (cc))

pub returns : goal.returns
returns g c = search (rules, one_fault_under, no_fault_under)

pub invariant_of-result : goal.invariant_of-result
invariant_of-result g c =
    let ok = rw c.in-Ok-default-None.field-0-1-is at c.in-Ok-default-None.ensures.ok in
    let same = c.in-Ok-default-None.ensures.message in
    record { disjoint = rw same (∣ ok.1 ∣₁) }
