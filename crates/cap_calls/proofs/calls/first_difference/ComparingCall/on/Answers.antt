-- What was vetted is the view, and what differs is the message that was vetted.
use Rattle.cap_spec.proofs.ProofNames.{ap, sym, ◌∙◌, false≢true}
use Rattle.cap_calls.specs.CallFindings.{accepted, accepted_found, refused}
use Rattle.cap_calls.specs.DifferenceCalls.{canonical, difference_found, different}
use Rattle.cap_calls.specs.declared.answer.Answer.TheVariants.{Good}
use Rattle.cap_calls.proofs.calls.first_difference.ComparingCall.on.Goals as goal

pub returns-then-canonical : goal.returns-then-canonical
returns-then-canonical c =
    accepted c.in-Ok.vetted.report c.in-Ok.ensures.ok.0 c.in-Ok.ensures.ok.1
    (canonical (c.in-Ok.ensures.canonical.0 c.if-canonical.true)
    (c.accepted.ensures ∙ ap (accepted_found Good 0) c.report-report.ensures.value))

pub returns-in-Some : goal.returns-in-Some
returns-in-Some c =
    accepted c.in-Ok.vetted.report c.in-Ok.ensures.ok.0 c.in-Ok.ensures.ok.1
    (different (λ k. false≢true (sym c.if-canonical.false ∙ c.in-Ok.ensures.canonical.1 k)) c.in-Some.difference
    (rw c.in-Ok.ensures.message at c.in-Some.ensures.some)
    (c.found_of_difference.ensures ∙ ap (difference_found c.in-Some.difference) c.report-report.ensures.value))

pub returns-in-Err : goal.returns-in-Err
returns-in-Err c = refused c.in-Err.refusal c.in-Err.ensures.err c.refused.ensures tt
