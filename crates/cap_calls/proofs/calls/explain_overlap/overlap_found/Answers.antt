-- The lines of a pointer that has a path, or that it has none.
use Rattle.std.proofs.Common.{ap, arith, refl, subst, sym}
use Rattle.cap_trace.specs.NamedPaths.{IsTraced}
use Rattle.cap_walk.specs.Limits.{depth_of}
use Rattle.cap_calls.specs.OverlapCalls.{explained, none}
use Rattle.cap_calls.specs.CallNames.{Found}
use Rattle.cap_calls.proofs.calls.explain_overlap.overlap_found.Goals as goal

pub returns-in-Some : goal.returns-in-Some
returns-in-Some g c =
    let m = g.M.Segments.segments c.args.message.now in
    let steps = c.in-Some.steps.now in
    let traced = subst (IsTraced m (depth_of c.args.limits) c.args.pointer.number) (sym c.in-Some.ensures) c.find.ensures.traced in
    let lines = c.explained.ensures.lines traced in (
      explained steps lines.0 lines.1
          (record { traceable = traced; within = omega (arith, c.if-number-words.false, c.words.ensures.value) }) lines.2
          c.explained.ensures.found,
      c.explained.ensures.few,
    )

pub returns-in-None : goal.returns-in-None
returns-in-None g c =
    let m = g.M.Segments.segments c.args.message.now in
    let missing = subst (IsTraced m (depth_of c.args.limits) c.args.pointer.number) (sym c.in-None.ensures) c.find.ensures.traced in
    let count = ap (λ (f : Found). f.count) c.path_answer-in-None.ensures in
    (none (λ path counted. missing path counted.traceable) c.path_answer-in-None.ensures refl, omega (arith, count))
