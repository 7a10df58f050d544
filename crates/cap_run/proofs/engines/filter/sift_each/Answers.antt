use Rattle.std.proofs.Common.{arith, rules}
use Rattle.cap_run.proofs.Sifting.{sieving_done, sieving_last, sieving_more, sieving_noncanonical, sieving_none}
use Rattle.cap_run.proofs.Sifting.{sieving_refused, sieving_stops}
use Rattle.cap_run.proofs.engines.filter.sift_each.Goals as goal

pub loop-number-init : goal.loop-number-init
loop-number-init g c = sieving_none c.new.ensures.failed c.new.ensures.waits

pub count-outcome-requires-clause-refused : goal.count-outcome-requires-clause-refused
count-outcome-requires-clause-refused g c = search (rules, sieving_refused)

pub count-outcome-requires-clause-noncanonical : goal.count-outcome-requires-clause-noncanonical
count-outcome-requires-clause-noncanonical g c = search (rules, sieving_noncanonical)

pub returns-then-ends_after-clause-ok : goal.returns-then-ends_after-clause-ok
returns-then-ends_after-clause-ok g c =
    let e = c.in-Ok-Some.field-0-is in
    sieving_last c.loop-number.invariant c.sift_next.new.source c.sift_next.new.out c.sift_next.new.log
    c.count-outcome.result c.sift_next.new.buffers.state.failed c.sift_next.new.buffers.state.waits c.in-Ok-Some.counted
    (c.in-Ok-Some.ensures.some c.in-Ok-Some.counted (cc)) c.count-outcome.ensures
    c.args.settings.now.messages (omega arith) (c.ends_after.ensures.yes c.if-ends_after.true)

pub returns-in-Ok-None-clause-ok : goal.returns-in-Ok-None-clause-ok
returns-in-Ok-None-clause-ok g c =
    let e = c.in-Ok-None.field-0-is in
    let end = c.in-Ok-None.ensures.none (cc) in
    rw (end.1, end.2) (sieving_done c.loop-number.invariant c.sift_next.new.source
    c.args.settings.now.messages (omega arith) end.0)

pub returns-in-Err-clause-err : goal.returns-in-Err-clause-err
returns-in-Err-clause-err g c =
    sieving_stops c.loop-number.invariant c.sift_next.new.source c.sift_next.new.out c.sift_next.new.log
    c.sift_next.new.buffers.state.failed c.sift_next.new.buffers.state.waits c.args.settings.now.messages c.in-Err.cause (omega arith) c.in-Err.ensures.err

pub loop-number-preserved : goal.loop-number-preserved
loop-number-preserved g c =
    let e = c.in-Ok-Some.field-0-is in
    sieving_more c.loop-number.invariant c.sift_next.new.source c.sift_next.new.out c.sift_next.new.log
    c.count-outcome.result c.sift_next.new.buffers.state.failed c.sift_next.new.buffers.state.waits c.in-Ok-Some.counted
    (c.in-Ok-Some.ensures.some c.in-Ok-Some.counted (cc)) c.count-outcome.ensures
    (c.ends_after.ensures.no c.if-ends_after.false)
