-- Each word appends its halves to the sizes, as far as there are sizes to come.
use Rattle.cap_spec.proofs.ProofNames.{rules}
use Rattle.std.proofs.Common.{arith, ◌%◌, ◌+◌, ◌/◌, ◌<◌, ◌^◌}
use Rattle.cap_spec.proofs.Frames.OneEnding.{makes_table}
use Rattle.cap_frame.proofs.Tables.{table_more, table_capacity, table_stops}
use Rattle.cap_frame.proofs.Taking.{reads_both}
use Rattle.cap_frame.proofs.table.read_sizes.Goals as goal

pub push_halves-requires-clause-fits : goal.push_halves-requires-clause-fits
push_halves-requires-clause-fits g c =
    let more : c.table.counter < (c.args.first % 2 ^ 32 + 1) / 2 = omega arith in
    let capacity = table_capacity g.S.WordSource c.args.first c.table.counter c.args.source.now c.table.source c.table.sizes.items more c.table.invariant in
    omega arith

pub returns-in-Err-clause-err : goal.returns-in-Err-clause-err
returns-in-Err-clause-err g c =
    table_stops g.S.WordSource c.args.first c.table.counter c.args.source.now c.table.source c.next_word.new.source c.table.sizes.items c.in-Err.fault
    (omega arith) c.table.invariant c.in-Err.ensures.err

pub table-preserved : goal.table-preserved
table-preserved g c = search (rules, table_more)

pub returns-clause-ok : goal.returns-clause-ok
returns-clause-ok g c =
    let t = c.table.invariant in
    let whole = makes_table c.args.first t.more (c.ranges.first.fits, t.fit) c.requires.few (omega (arith, t.length_is)) in
    (t.more, t.took.takes, rw (← t.sizes_are) at whole)

pub returns-in-Err-clause-reads : goal.returns-in-Err-clause-reads
returns-in-Err-clause-reads g c = search (rules, reads_both)
