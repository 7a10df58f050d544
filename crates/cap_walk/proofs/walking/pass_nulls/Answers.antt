use Rattle.std.proofs.Common.{arith, rules}
use Rattle.cap_walk.proofs.Passing.{passes_each, topmost_few, topmost_in}
use Rattle.cap_walk.proofs.walking.pass_nulls.Goals as goal

pub nulls-passed-requires : goal.nulls-passed-requires
nulls-passed-requires g c =
    let (words, depth, runs, seen, ahead, w) = c.requires in
    let inside = topmost_in _ words depth runs c.args.run.now c.args.report.now seen ahead w in
    search (rules, inside)

pub overflow_add-report : goal.overflow_add-report
overflow_add-report g c =
    let (words, depth, runs, seen, ahead, w) = c.requires in
    let few = topmost_few _ words depth runs c.args.run.now c.args.report.now _ _ w in
    search (rules, c.nulls-passed.ensures.few, c.from.ensures)

pub returns : goal.returns
returns g c = λ words depth runs seen ahead w.
    rw c.from.ensures
    (passes_each _ words depth runs seen c.args.run.now c.args.report.now ahead c.nulls-passed.result
    (omega (arith, c.nulls-passed.ensures.few, c.if-run-lt2.false)) c.nulls-passed.ensures.null w)
