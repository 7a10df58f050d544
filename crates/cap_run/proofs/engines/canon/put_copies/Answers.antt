use Rattle.std.proofs.Common.{arith, rules}
use Rattle.cap_run.proofs.Making.{making_ends, making_stops, so_far_more, so_far_none}
use Rattle.cap_run.proofs.engines.canon.put_copies.Goals as goal

pub loop-number-init : goal.loop-number-init
loop-number-init g c = search (rules, so_far_none)

pub returns-in-Err : goal.returns-in-Err
returns-in-Err g c =
    making_stops c.in-Err.cause (omega arith) c.loop-number.invariant c.in-Err.ensures.err

pub loop-number-preserved : goal.loop-number-preserved
loop-number-preserved g c =
    let r = c.in-Ok-true.ensures.some (cc) in
    so_far_more r.0 c.loop-number.invariant r.1 r.2 r.3

pub returns : goal.returns
returns g c =
    making_ends (omega (arith, c.loop-number-test.false, c.loop-number.auto.number-end)) c.loop-number.invariant c.end_stream-end.ensures.ok c.end_stream-end.ensures.err
