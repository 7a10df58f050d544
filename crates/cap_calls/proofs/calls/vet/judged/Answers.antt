-- The verdict of the message.
use Rattle.std.proofs.Common.{ap, ◌∙◌}
use Rattle.cap_calls.specs.CallFindings.{accepted, accepted_found, refused}
use Rattle.cap_calls.specs.declared.answer.Answer.TheVariants.{Good}
use Rattle.cap_calls.proofs.calls.vet.judged.Goals as goal

pub returns-in-Ok : goal.returns-in-Ok
returns-in-Ok g c =
    accepted _ c.in-Ok.ensures.ok.0 c.in-Ok.ensures.ok.1
    (c.accepted.ensures ∙ ap (accepted_found Good 0) c.report.ensures.value)

pub returns-in-Err : goal.returns-in-Err
returns-in-Err g c = refused c.in-Err.refusal c.in-Err.ensures.err c.refused.ensures tt
