-- The verdict of the slice.
use Rattle.std.proofs.Common.{List, ap, arith, refl, subst, ℕ, ◌∙◌, ◌≡◌}
use Rattle.cap_walk.specs.Demands.{IsDemandFault}
use Rattle.cap_walk.specs.Limits.{depth_of, words_of}
use Rattle.cap_calls.specs.CallFindings.{accepted_found}
use Rattle.cap_calls.specs.ExplainCalls.{FindsLines, accepted, explained, uncounted}
use Rattle.cap_calls.specs.declared.answer.Answer.TheVariants.{Good}
use Rattle.cap_calls.specs.declared.found.Found.{Found}
use Rattle.cap_calls.proofs.calls.explain.ExplainingCall.on_one.Goals as goal

pub returns-in-Ok : goal.returns-in-Ok
returns-in-Ok c =
    let found = c.accepted.ensures ∙ ap (accepted_found Good 0) c.report.ensures.value in
    let none : c.accepted.result.count ≡ 0 = ap (λ (f : Found). f.count) found in
    let out = c.args.out.now in (
      subst (λ (m : List (List ℕ)). FindsLines c.args.self.now.has_table out c.accepted.result.count out c.args.demands m
          (words_of c.args.limits) (depth_of c.args.limits) (uncounted c.accepted.result)) c.of.ensures
          (accepted _ c.in-Ok.ensures.ok.0 c.in-Ok.ensures.ok.1 (ap uncounted found) none refl),
      omega (arith, none),
    )

pub returns-in-Err : goal.returns-in-Err
returns-in-Err c =
    let refusal = c.in-Err.refusal in
    let h = subst (λ (m : List (List ℕ)). IsDemandFault c.args.demands m (words_of c.args.limits) (depth_of c.args.limits) refusal)
    c.of.ensures c.in-Err.ensures.err in
    let of = c.explained.ensures in
    let (cycle, is_cycle, lines) = of.lines h in
    (explained refusal h cycle is_cycle lines (ap uncounted of.refused), of.few)
