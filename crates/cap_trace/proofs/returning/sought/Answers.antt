use Rattle.std.proofs.Common.{refl}
use Rattle.cap_trace.proofs.Returns.{cycle_reported, down_here}
use Rattle.cap_trace.proofs.returning.sought.Goals as goal

pub returns-in-Some : goal.returns-in-Some
returns-in-Some g c =
    let m = g.M.Segments.segments c.args.message.now in
    let h = c.in-Some.ensures.found in
    cycle_reported m c.args.depth c.args.number _ _ c.last_of.result h
    ((rw c.as_slice.ensures.value at (c.last_of.ensures m)) (down_here m c.args.depth c.args.number _ _ h))

pub returns-in-None : goal.returns-in-None
returns-in-None g c = λ path a. absurd (c.in-None.ensures.missing refl path a)
