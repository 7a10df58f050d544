-- What was vetted is the view.
use Rattle.cap_spec.proofs.ProofNames.{ap, sym, ◌∙◌, false≢true}
use Rattle.cap_calls.specs.CallFindings.{accepted, accepted_found, refused}
use Rattle.cap_calls.specs.Calls.{canonical, not_canonical}
use Rattle.cap_calls.specs.declared.answer.Answer.TheVariants.{Good, NotCanonical}
use Rattle.cap_calls.proofs.calls.check_canonical.CheckingCall.on.Goals as goal

pub returns-then-canonical : goal.returns-then-canonical
returns-then-canonical c =
    accepted c.in-Ok.vetted.report c.in-Ok.ensures.ok.0 c.in-Ok.ensures.ok.1
    (canonical (c.in-Ok.ensures.canonical.0 c.if-canonical.true)
    (c.accepted.ensures ∙ ap (accepted_found Good 0) c.report-report.ensures.value))

pub returns-else-canonical : goal.returns-else-canonical
returns-else-canonical c =
    accepted c.in-Ok.vetted.report c.in-Ok.ensures.ok.0 c.in-Ok.ensures.ok.1
    (not_canonical (λ k. false≢true (sym c.if-canonical.false ∙ c.in-Ok.ensures.canonical.1 k))
    (c.accepted-else-canonical.ensures ∙ ap (accepted_found NotCanonical 0) c.report-report.ensures.value))

pub returns-in-Err : goal.returns-in-Err
returns-in-Err c = refused c.in-Err.refusal c.in-Err.ensures.err c.refused.ensures tt
