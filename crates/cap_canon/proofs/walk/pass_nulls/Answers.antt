use Rattle.cap_spec.proofs.ProofNames.{arith, ◌+◌, trim}
use Rattle.cap_canon.proofs.NullRuns.{first_due, first_passed, kept_each, null_each, nulls_due, nulls_on, nulls_passed, rest_in, word_near}
use Rattle.cap_canon.proofs.Runs.{second_short}
use Rattle.cap_canon.proofs.walk.pass_nulls.Goals as goal

pub nulls_after-more-requires-clause-full : goal.nulls_after-more-requires-clause-full
nulls_after-more-requires-clause-full g c = c.requires.at.3.full.some

pub nulls_after-more-requires-clause-short : goal.nulls_after-more-requires-clause-short
nulls_after-more-requires-clause-short g c = λ lt.
    (let (depth, end, runs, k) = c.requires.at in
    let f = c.args.run.now in (second_short f.segment f.at f.slot f.left _ lt k.short).0)

pub nulls_after-more-requires-clause-exists : goal.nulls_after-more-requires-clause-exists
nulls_after-more-requires-clause-exists g c = λ lt. (let (depth, end, runs, k) = c.requires.at in (rest_in c.args.run.now lt k).0)

pub nulls_after-more-requires-clause-inside : goal.nulls_after-more-requires-clause-inside
nulls_after-more-requires-clause-inside g c = λ lt. (let (depth, end, runs, k) = c.requires.at in (rest_in c.args.run.now lt k).1)

pub visit_nulls-requires : goal.visit_nulls-requires
visit_nulls-requires g c =
    let (depth, end, runs, k) = c.requires.at in
    let d = first_due (g.P.Pass.state c.args.pass.now) c.args.run.now c.requires.null k in
    (g.M.Segments.segments c.args.message.now, trim d.root, end, d.due, d.turns, d.so_far)

pub returns-then-more-eq0-clause-goes_on : goal.returns-then-more-eq0-clause-goes_on
returns-then-more-eq0-clause-goes_on g c = λ depth end runs k.
    first_passed (g.P.Pass.state c.args.pass.now) (g.P.Pass.state c.visit_nulls.new.self) c.args.run.now c.requires.null
    (λ u due turns s. c.visit_nulls.ensures.goes_on (g.M.Segments.segments c.args.message.now) u end due turns s) k

pub returns-then-more-eq0-clause-kept : goal.returns-then-more-eq0-clause-kept
returns-then-more-eq0-clause-kept g c = λ depth end runs k.
    (let m = g.M.Segments.segments c.args.message.now in
    let d = first_due (g.P.Pass.state c.args.pass.now) c.args.run.now c.requires.null k in
    kept_each m (g.P.Pass.kept c.visit_nulls.new.self) (g.P.Pass.kept c.args.pass.now) d.root d.charge depth d.denotes
    (c.visit_nulls.ensures.kept m (trim d.root) end d.due d.turns d.so_far))

pub visit_nulls-requires-2 : goal.visit_nulls-requires-2
visit_nulls-requires-2 g c =
    let (depth, end, runs, k) = c.requires.at in
    let m = g.M.Segments.segments c.args.message.now in
    let f = c.args.run.now in
    let n = c.nulls_after-more.result in
    let null = null_each m f.segment f.at n c.requires.null c.nulls_after-more.ensures.null in
    let on = nulls_on (g.P.Pass.state c.args.pass.now) f n c.nulls_after-more.ensures.few (λ i less. null i (omega (arith, less))) k in
    let d = nulls_due (g.P.Pass.state c.args.pass.now) f n (n + 1) (omega arith) (null n (omega arith)) on.0 in
    (m, trim d.root, end, d.due, d.turns, d.so_far)

pub overflow_add-more : goal.overflow_add-more
overflow_add-more g c =
    let (depth, end, runs, k) = c.requires.at in omega arith

pub overflow_add-run : goal.overflow_add-run
overflow_add-run g c =
    let (depth, end, runs, k) = c.requires.at in
    let f = c.args.run.now in
    let n = c.nulls_after-more.result in
    let null = null_each (g.M.Segments.segments c.args.message.now) f.segment f.at n c.requires.null c.nulls_after-more.ensures.null in
    let near = word_near (f.at + n) 0 k (null n (omega arith)) in omega (arith, near)

pub overflow_add-run-2 : goal.overflow_add-run-2
overflow_add-run-2 g c =
    let (depth, end, runs, k) = c.requires.at in
    let m = g.M.Segments.segments c.args.message.now in
    let f = c.args.run.now in
    let n = c.nulls_after-more.result in
    let null = null_each m f.segment f.at n c.requires.null c.nulls_after-more.ensures.null in
    let on = nulls_on (g.P.Pass.state c.args.pass.now) f n c.nulls_after-more.ensures.few (λ i less. null i (omega (arith, less))) k in
    let d = nulls_due (g.P.Pass.state c.args.pass.now) f n (n + 1) (omega arith) (null n (omega arith)) on.0 in omega (arith, d.near)

pub returns-clause-goes_on : goal.returns-clause-goes_on
returns-clause-goes_on g c = λ depth end runs k.
    (let m = g.M.Segments.segments c.args.message.now in
    let f = c.args.run.now in
    let n = c.nulls_after-more.result in
    let null = null_each m f.segment f.at n c.requires.null c.nulls_after-more.ensures.null in
    let on = nulls_on (g.P.Pass.state c.args.pass.now) f n c.nulls_after-more.ensures.few (λ i less. null i (omega (arith, less))) k in (
      nulls_passed (g.P.Pass.state c.args.pass.now) (g.P.Pass.state c.visit_nulls-2.new.self) f n (n + 1) (omega arith) (null n (omega arith))
          (λ u due turns s. c.visit_nulls-2.ensures.goes_on m u end due turns s) on.0,
      on.1,
    ))

pub returns-clause-null : goal.returns-clause-null
returns-clause-null g c =
    let f = c.args.run.now in
    let n = c.nulls_after-more.result in
    null_each (g.M.Segments.segments c.args.message.now) f.segment f.at n c.requires.null c.nulls_after-more.ensures.null n (omega arith)

pub returns-clause-kept : goal.returns-clause-kept
returns-clause-kept g c = λ depth end runs k.
    (let m = g.M.Segments.segments c.args.message.now in
    let f = c.args.run.now in
    let n = c.nulls_after-more.result in
    let null = null_each m f.segment f.at n c.requires.null c.nulls_after-more.ensures.null in
    let on = nulls_on (g.P.Pass.state c.args.pass.now) f n c.nulls_after-more.ensures.few (λ i less. null i (omega (arith, less))) k in
    let d = nulls_due (g.P.Pass.state c.args.pass.now) f n (n + 1) (omega arith) (null n (omega arith)) on.0 in
    kept_each m (g.P.Pass.kept c.visit_nulls-2.new.self) (g.P.Pass.kept c.args.pass.now) d.root d.charge depth d.denotes
    (c.visit_nulls-2.ensures.kept m (trim d.root) end d.due d.turns d.so_far))
