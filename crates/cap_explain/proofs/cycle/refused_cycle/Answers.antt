use Rattle.std.proofs.Common.{refl, sym, ◌∙◌}
use Rattle.cap_walk.specs.Limits.{depth_of}
use Rattle.cap_explain.proofs.Cycles.{limit_cycle}
use Rattle.cap_explain.proofs.cycle.refused_cycle.Goals as goal

pub returns-then-is_limit : goal.returns-then-is_limit
returns-then-is_limit g c = λ words h.
    let m = g.M.Segments.segments c.args.message.now in
    let refusal = c.args.refusal.now in
    limit_cycle m words (depth_of c.args.limits) refusal c.last_cycle.result (sym c.is_limit.ensures ∙ c.if-is_limit.true)
    (λ f. c.last_cycle.ensures.fault words refusal f refl) h
