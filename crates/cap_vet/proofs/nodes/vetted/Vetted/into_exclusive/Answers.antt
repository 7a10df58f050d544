use Rattle.std.proofs.Common.{inl}
use Rattle.cap_spec.proofs.Disjoint.Overlaps.{none_of_disjoint, one_overlap}
use Rattle.cap_vet.proofs.Keeping.{vetted_kept}
use Rattle.cap_vet.proofs.nodes.vetted.Vetted.into_exclusive.Goals as goal

pub returns-in-None-clause-names : goal.returns-in-None-clause-names
returns-in-None-clause-names g c = λ s w n first.
    absurd (none_of_disjoint _ c.in-None.ensures first.path first.first.holds)

pub returns-clause-accepts : goal.returns-clause-accepts
returns-clause-accepts g c = λ disjoint.
    absurd (none_of_disjoint _ disjoint c.in-Some.ensures.path c.in-Some.ensures.first.holds)

pub returns-clause-names : goal.returns-clause-names
returns-clause-names g c = λ s w n first.
    (let same = one_overlap (g.M.Segments.segments c.args.self.message.now) _ _ _ s w n c.in-Some.ensures first in inl (cc))

pub first_overlap-requires-clause-accepted : goal.first_overlap-requires-clause-accepted
first_overlap-requires-clause-accepted g c = (c.args.self.report, vetted_kept _ _ c.args.self.accepted)

pub invariant_of-result : goal.invariant_of-result
invariant_of-result g c = record { disjoint = ∣ c.in-None.ensures ∣₁ }
