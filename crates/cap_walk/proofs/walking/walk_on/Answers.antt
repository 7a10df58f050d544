use Rattle.cap_spec.proofs.ProofNames.{arith, option_to_list, rules, ◌++◌, IsMessage, common_steps}
use Rattle.cap_walk.specs.Limits.{depth_of, words_of}
use Rattle.cap_walk.proofs.Passing.{topmost_in}
use Rattle.cap_walk.proofs.Runs.{has_rest}
use Rattle.cap_walk.proofs.Stacks.{known_past, next_at, steps_on}
use Rattle.cap_walk.proofs.Verdicts.{whole_at_end}
use Rattle.cap_walk.proofs.walking.walk_on.Goals as goal

pub turn_described-requires : goal.turn_described-requires
turn_described-requires g c =
    let walking = c.walk.invariant.walking in
    let f = topmost_in _ _ _ c.walk.stack.items c.walk.run c.walk.report _ _ walking.walks in
    let rest = has_rest c.walk.run f.some in
    (c.walk.stack.items ++ option_to_list rest.0, next_at _ _ c.walk.stack.items c.walk.run _ _ _ walking rest.1)

pub word-is_null-requires : goal.word-is_null-requires
word-is_null-requires g c =
    let f = topmost_in _ _ _ c.walk.stack.items c.walk.run c.walk.report _ _ c.walk.invariant.walking.walks in
    search rules

pub go_on-requires : goal.go_on-requires
go_on-requires g c =
    let m = g.M.Segments.segments c.args.message.now in
    let message : IsMessage m = search rules in search (rules, topmost_in)

pub turn_other-requires : goal.turn_other-requires
turn_other-requires g c = grind (arith, common_steps)

pub pass_nulls-requires : goal.pass_nulls-requires
pass_nulls-requires g c =
    let m = g.M.Segments.segments c.args.message.now in
    let on = rw c.in-More.is at (steps_on c.walk.invariant.walking
    (λ runs at. rw c.in-Some-Ok.field-0-is at (c.in-Some-Ok.ensures.ok runs at)) c.go_on.ensures.runs) in
    (_, _, c.go_on.new.stack.items, on.walking.seen, on.walking.ahead, on.walking.walks)

pub walk-preserved-then-is_null : goal.walk-preserved-then-is_null
walk-preserved-then-is_null g c =
    let m = g.M.Segments.segments c.args.message.now in
    let on = rw c.in-More.is at (steps_on c.walk.invariant.walking
    (λ runs at. rw c.in-Some-Ok.field-0-is at (c.in-Some-Ok.ensures.ok runs at)) c.go_on.ensures.runs) in
    let passed = c.pass_nulls.ensures (words_of c.args.limits.now) (depth_of c.args.limits.now) c.go_on.new.stack.items _ _ on.walking.walks in
    let known = known_past m (g.T.Turn.knows c.turn_described.new.turn m) passed.nulls on.walking.seen
    (g.met.T.Turn.passes c.turn_described.new.turn m) passed.are_null on.walking.known in
    record {
      fits = rw c.in-More.is at c.go_on.ensures.fits;
      walking = record { seen = passed.nulls ++ on.walking.seen; ahead = passed.later; walks = passed.walks; known = known };
    }

pub walk-smaller-then-is_null : goal.walk-smaller-then-is_null
walk-smaller-then-is_null g c =
    let m = g.M.Segments.segments c.args.message.now in
    let on = rw c.in-More.is at (steps_on c.walk.invariant.walking
    (λ runs at. rw c.in-Some-Ok.field-0-is at (c.in-Some-Ok.ensures.ok runs at)) c.go_on.ensures.runs) in
    let passed = c.pass_nulls.ensures (words_of c.args.limits.now) (depth_of c.args.limits.now) c.go_on.new.stack.items _ _ on.walking.walks in
    omega (arith, on.less, passed.less)

pub walk-preserved-else-is_null : goal.walk-preserved-else-is_null
walk-preserved-else-is_null g c =
    let m = g.M.Segments.segments c.args.message.now in
    let on = rw c.in-More.is at (steps_on c.walk.invariant.walking
    (λ runs at. rw c.in-Some-Ok.field-0-is at (c.in-Some-Ok.ensures.ok runs at)) c.go_on.ensures.runs) in
    record { fits = rw c.in-More.is at c.go_on.ensures.fits; walking = on.walking }

pub walk-smaller-else-is_null : goal.walk-smaller-else-is_null
walk-smaller-else-is_null g c =
    let m = g.M.Segments.segments c.args.message.now in
    let on = rw c.in-More.is at (steps_on c.walk.invariant.walking
    (λ runs at. rw c.in-Some-Ok.field-0-is at (c.in-Some-Ok.ensures.ok runs at)) c.go_on.ensures.runs) in
    on.less

pub returns-in-Full-clause-full : goal.returns-in-Full-clause-full
returns-in-Full-clause-full g c = λ f.
    let m = g.M.Segments.segments c.args.message.now in
    let on = rw c.in-Full.is at (steps_on c.walk.invariant.walking
    (λ runs at. rw c.in-Some-Ok.field-0-is at (c.in-Some-Ok.ensures.ok runs at)) c.go_on.ensures.runs) in
    (rw c.in-Full.is at c.go_on.ensures.fits, on.walking)

pub returns-in-Done-clause-done : goal.returns-in-Done-clause-done
returns-in-Done-clause-done g c = λ f.
    let m = g.M.Segments.segments c.args.message.now in
    let on = rw c.in-Done.is at (steps_on c.walk.invariant.walking
    (λ runs at. rw c.in-Some-Ok.field-0-is at (c.in-Some-Ok.ensures.ok runs at)) c.go_on.ensures.runs) in
    whole_at_end on.walking

pub walk-preserved : goal.walk-preserved
walk-preserved g c =
    let on = rw (c.in-Ok-More.field-0-is, c.in-None.ensures.none.0) at c.in-Ok-More.ensures.ok in
    record { fits = rw c.in-Ok-More.field-0-is at c.in-Ok-More.ensures.fits; walking = on.walking }

pub walk-smaller : goal.walk-smaller
walk-smaller g c =
    (rw (c.in-Ok-More.field-0-is, c.in-None.ensures.none.0) at c.in-Ok-More.ensures.ok).less

pub returns-in-Ok-Full-clause-full : goal.returns-in-Ok-Full-clause-full
returns-in-Ok-Full-clause-full g c = λ f.
    let on = rw (c.in-Ok-Full.field-0-is, c.in-None.ensures.none.0) at c.in-Ok-Full.ensures.ok in
    (rw c.in-Ok-Full.field-0-is at c.in-Ok-Full.ensures.fits, on.walking)

pub returns-in-Ok-Done-clause-done : goal.returns-in-Ok-Done-clause-done
returns-in-Ok-Done-clause-done g c = λ f.
    whole_at_end (rw (c.in-Ok-Done.field-0-is, c.in-None.ensures.none.0) at c.in-Ok-Done.ensures.ok).walking
