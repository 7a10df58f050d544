use Rattle.std.proofs.Common.{arith, length, rules, ◌<◌, ◌+◌, ◌≤◌}
use Rattle.cap_spec.proofs.Lemmas.{short_segment}
use Rattle.cap_trace.proofs.NullRuns.{at_row, come_row, over_nulls_here}
use Rattle.cap_trace.proofs.seeking.pass_nulls.Goals as goal

pub overflow_sub-row : goal.overflow_sub-row
overflow_sub-row g c =
    let (depth, n, shallow, h) = c.requires in
    (come_row _ depth n _ c.in-Some.row c.args.here.now (rw c.in-Some.ensures.items at h)).0

pub nulls-passed-requires-clause-inside : goal.nulls-passed-requires-clause-inside
nulls-passed-requires-clause-inside g c =
    let (depth, n, shallow, h) = c.requires in
    let come = rw c.in-Some.ensures.items at h in
    let row = come_row _ depth n _ c.in-Some.row c.args.here.now come in
    let here = (at_row _ depth n _ c.in-Some.row c.args.here.now come).1 in
    rw here (omega (arith, row.0, row.1, c.min-left.ensures, c.from.ensures))

pub taken_more-row-requires : goal.taken_more-row-requires
taken_more-row-requires g c =
    let (depth, n, shallow, h) = c.requires in
    let row = come_row _ depth n _ c.in-Some.row c.args.here.now (rw c.in-Some.ensures.items at h) in
    omega (arith, row.0, c.nulls-passed.ensures.few, c.min-left.ensures, c.from.ensures)

pub place-requires : goal.place-requires
place-requires g c =
    let (depth, n, shallow, h) = c.requires in
    let m = g.M.Segments.segments c.args.message.now in
    let row = come_row _ depth n _ c.in-Some.row c.args.here.now (rw c.in-Some.ensures.items at h) in
    let short = short_segment m c.in-Some.row.segment (g.met.M.Segments.is_message c.args.message.now) row.2 in
    rw c.taken_more-row.ensures (omega (arith, row.0, row.1, short, c.nulls-passed.ensures.few, c.min-left.ensures, c.from.ensures))

pub push-requires : goal.push-requires
push-requires g c =
    let (depth, n, shallow, h) = c.requires in
    let row = come_row _ depth n _ c.in-Some.row c.args.here.now (rw c.in-Some.ensures.items at h) in
    let few : length c.pop.new.self.items < 256 = omega (arith, shallow, row.3) in
    (search rules, few)

pub returns-in-Some-clause-come : goal.returns-in-Some-clause-come
returns-in-Some-clause-come g c = λ depth n h.
    let come = rw c.in-Some.ensures.items at h in
    let row = come_row _ depth n _ c.in-Some.row c.args.here.now come in
    let few : c.in-Some.row.taken + c.nulls-passed.result ≤ c.in-Some.row.count =
    omega (arith, row.0, c.nulls-passed.ensures.few, c.min-left.ensures, c.from.ensures) in
    rw (c.push.ensures.items, c.place.ensures, c.taken_more-row.ensures, c.from-in-Some.ensures)
    (over_nulls_here _ depth n _ c.in-Some.row c.args.here.now c.nulls-passed.result few c.nulls-passed.ensures.null come).0

pub returns-in-Some-clause-unused : goal.returns-in-Some-clause-unused
returns-in-Some-clause-unused g c = λ depth n places h none.
    let come = rw c.in-Some.ensures.items at h in
    let row = come_row _ depth n _ c.in-Some.row c.args.here.now come in
    let few : c.in-Some.row.taken + c.nulls-passed.result ≤ c.in-Some.row.count =
    omega (arith, row.0, c.nulls-passed.ensures.few, c.min-left.ensures, c.from.ensures) in
    rw (c.push.ensures.items, c.taken_more-row.ensures)
    ((over_nulls_here _ depth n _ c.in-Some.row c.args.here.now c.nulls-passed.result few c.nulls-passed.ensures.null come).1
    places (rw c.in-Some.ensures.items at none))
