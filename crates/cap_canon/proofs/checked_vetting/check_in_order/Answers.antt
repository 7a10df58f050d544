use Rattle.cap_spec.proofs.ProofNames.{eq-eqb, eqb-true, sym, ◌∙◌, false≢true, rules}
use Rattle.cap_canon.proofs.Copies.{not_with_caps}
use Rattle.cap_canon.proofs.InOrder.{compared_at_end, strict_compared}
use Rattle.cap_canon.proofs.checked_vetting.check_in_order.Goals as goal

pub returns-then-report-ne0-clause-ok : goal.returns-then-report-ne0-clause-ok
returns-then-report-ne0-clause-ok g c =
    let (seen, trail, known) = c.in-Ok.ensures.knows in
    (c.in-Ok.ensures.ok, strict_compared _ _ _ seen _ _ trail known c.in-Ok.ensures.ok)

pub returns-then-report-ne0-clause-canonical : goal.returns-then-report-ne0-clause-canonical
returns-then-report-ne0-clause-canonical g c = search (rules, false≢true, not_with_caps)

pub returns-else-report-ne0-clause-ok : goal.returns-else-report-ne0-clause-ok
returns-else-report-ne0-clause-ok g c =
    let (seen, trail, known) = c.in-Ok.ensures.knows in
    (c.in-Ok.ensures.ok, strict_compared _ _ _ seen _ _ trail known c.in-Ok.ensures.ok)

pub returns-else-report-ne0-clause-canonical : goal.returns-else-report-ne0-clause-canonical
returns-else-report-ne0-clause-canonical g c =
    let (seen, trail, known) = c.in-Ok.ensures.knows in
    let vetted = rw c.in-Ok.ensures.message at c.report.ensures.accepted in
    let end = c.in-Ok.turn.end in
    let whole = compared_at_end trail known vetted.1 c.if-report-ne0.false in (
      λ yes. whole.0 (eqb-true end c.len.result yes ∙ c.len.ensures),
      λ k. eq-eqb end c.len.result (whole.1 k ∙ sym c.len.ensures),
    )
