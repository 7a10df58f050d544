use Rattle.cap_spec.proofs.ProofNames.{rules, Err, ap, arith, length, ◌≤◌}
use Rattle.cap_spec.proofs.Disjoint.Overlaps.{none_of_disjoint}
use Rattle.cap_vet.specs.VetNames.{marks_of}
use Rattle.cap_vet.proofs.ExclusiveFaults.{no_exclusive_fault, one_exclusive_fault}
use Rattle.cap_vet.proofs.Keeping.{vetted_kept}
use Rattle.cap_vet.proofs.nodes.vetted.Vetted.into_exclusive_in.Goals as goal

pub returns-then-marks-needed-clause-err : goal.returns-then-marks-needed-clause-err
returns-then-marks-needed-clause-err g c = search (rules, vetted_kept)

pub returns-then-marks-needed-clause-refuses : goal.returns-then-marks-needed-clause-refuses
returns-then-marks-needed-clause-refuses g c = search (rules, one_exclusive_fault, vetted_kept)

pub overlap_over-requires-clause-accepted : goal.overlap_over-requires-clause-accepted
overlap_over-requires-clause-accepted g c =
    (c.args.self.report, vetted_kept _ _ c.args.self.accepted)

pub returns-in-None-clause-refuses : goal.returns-in-None-clause-refuses
returns-in-None-clause-refuses g c =
    λ x h. absurd (no_exclusive_fault _ _ c.args.self.report x (vetted_kept _ _ c.args.self.accepted)
    c.in-None.ensures (omega (arith, c.numbers_for-needed.ensures.exact, c.if-marks-needed.false)) h)

pub returns-in-Some-clause-err : goal.returns-in-Some-clause-err
returns-in-Some-clause-err g c = search (rules, vetted_kept)

pub returns-in-Some-clause-accepts : goal.returns-in-Some-clause-accepts
returns-in-Some-clause-accepts g c = λ disjoint capacity.
    absurd (none_of_disjoint _ disjoint c.in-Some.ensures.path c.in-Some.ensures.first.holds)

pub returns-in-Some-clause-refuses : goal.returns-in-Some-clause-refuses
returns-in-Some-clause-refuses g c =
    let capacity : marks_of (g.M.Segments.segments c.args.self.message.now) ≤ length c.args.marks.now =
    omega (arith, c.numbers_for-needed.ensures.exact, c.if-marks-needed.false) in
    λ x h. ap Err (one_exclusive_fault _ _ _ (length c.args.marks.now) _ x
    (c.args.self.report, vetted_kept _ _ c.args.self.accepted, capacity, c.in-Some.ensures) h)

pub invariant_of-result : goal.invariant_of-result
invariant_of-result g c = record { disjoint = ∣ c.in-None.ensures ∣₁ }
