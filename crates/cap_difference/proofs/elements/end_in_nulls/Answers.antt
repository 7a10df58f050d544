use Rattle.cap_spec.proofs.ProofNames.{arith, below_more, false≢true, refl, sym, ℕ, ◌*◌, ◌+◌, ◌-◌, ◌∙◌}
use Rattle.cap_difference.specs.Reasons.{IsNullAt}
use Rattle.cap_difference.proofs.elements.end_in_nulls.Goals as goal

pub returns-then-not-is_null : goal.returns-then-not-is_null
returns-then-not-is_null g c =
    let null = rw (c.from.ensures, c.from-2.ensures) at c.is_null.ensures in
    (λ h. absurd (cc h), λ h. absurd (false≢true (sym c.if-not-is_null.true ∙ null.1 (h.nulls c.elements.k (omega (arith, c.elements-test.true))))))

pub elements-preserved : goal.elements-preserved
elements-preserved g c =
    below_more (λ (k : ℕ). IsNullAt (g.M.Segments.segments c.args.message.now) c.args.row.segment
    (c.args.row.first + k * (c.from.result + c.from-2.result) + (c.from.result + c.from-2.result - 1))) c.elements.k c.elements.invariant
    (c.is_null.ensures.0 c.if-not-is_null.false)

pub returns : goal.returns
returns g c =
    let nulls = rw (c.from.ensures, c.from-2.ensures) at c.elements.invariant in (
      (λ _. record {
        some = omega (arith, c.if-row-eq0.false);
        nulls = λ k lt. nulls k (omega (arith, lt, c.elements-test.false));
      }),
      (λ _. refl),
    )
