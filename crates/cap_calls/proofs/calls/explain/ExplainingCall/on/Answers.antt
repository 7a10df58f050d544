use Rattle.std.proofs.Common.{ap, arith, refl, ◌∙◌, ◌≡◌}
use Rattle.cap_calls.specs.CallFindings.{accepted_found}
use Rattle.cap_calls.specs.ExplainCalls.{accepted, explained, uncounted}
use Rattle.cap_calls.specs.declared.answer.Answer.TheVariants.{Good}
use Rattle.cap_calls.specs.declared.found.Found.{Found}
use Rattle.cap_calls.proofs.calls.explain.ExplainingCall.on.Goals as goal

pub returns-in-Ok : goal.returns-in-Ok
returns-in-Ok c =
    let found = c.accepted.ensures ∙ ap (accepted_found Good 0) c.report.ensures.value in
    let none : c.accepted.result.count ≡ 0 = ap (λ (f : Found). f.count) found in
    (accepted _ c.in-Ok.ensures.ok.0 c.in-Ok.ensures.ok.1 (ap uncounted found) none refl, omega (arith, none))

pub returns-in-Err : goal.returns-in-Err
returns-in-Err c =
    let h = c.in-Err.ensures.err in
    let of = c.explained.ensures in
    let (cycle, is_cycle, lines) = of.lines h in
    (explained c.in-Err.refusal h cycle is_cycle lines (ap uncounted of.refused), of.few)
