use Rattle.cap_trace.proofs.Nulls.{cap_below, nothing_below, null_leads}
use Rattle.cap_trace.proofs.below.look_below.Goals as goal

pub returns-then-word-eq0 : goal.returns-then-word-eq0
returns-then-word-eq0 g c =
    let m = g.M.Segments.segments c.args.message.now in
    nothing_below m c.args.depth 0 _ _ c.args.level (null_leads m _ _ (rw c.if-word-eq0.true at c.word.ensures))

pub returns-in-Ok-Target : goal.returns-in-Ok-Target
returns-in-Ok-Target g c =
    c.below_target.ensures (g.M.Segments.segments c.args.message.now) _ _ (rw c.in-Ok-Target.field-0-is at c.in-Ok-Target.ensures.ok)

pub returns-in-Ok-Null : goal.returns-in-Ok-Null
returns-in-Ok-Null g c =
    nothing_below (g.M.Segments.segments c.args.message.now) c.args.depth _ _ _ c.args.level
    (rw c.in-Ok-Null.field-0-is at c.in-Ok-Null.ensures.ok)

pub returns-in-Ok-Cap : goal.returns-in-Ok-Cap
returns-in-Ok-Cap g c =
    cap_below (g.M.Segments.segments c.args.message.now) c.args.depth _ _ _ _ c.args.level
    (rw c.in-Ok-Cap.field-0-is at c.in-Ok-Cap.ensures.ok)
