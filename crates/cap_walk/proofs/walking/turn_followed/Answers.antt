use Rattle.cap_spec.proofs.ProofNames.{inr, option_to_list, rules, ◌++◌, IsMessage, common_steps, arith}
use Rattle.cap_walk.proofs.Passing.{topmost_in}
use Rattle.cap_walk.proofs.Runs.{has_rest}
use Rattle.cap_walk.proofs.Stacks.{looked_at, looked_costs, next_at, steps_on, visited}
use Rattle.cap_walk.proofs.LookedPlaces.{looked_place}
use Rattle.cap_walk.proofs.walking.turn_followed.Goals as goal

pub visit-requires : goal.visit-requires
visit-requires g c =
    let f = topmost_in _ _ _ c.args.stack.now.items c.args.run.now c.args.report.now _ _ c.requires.walking.walks in
    let rest = has_rest c.args.run.now f.some in
    record {
      next = (
        c.args.stack.now.items ++ option_to_list rest.0,
        (next_at _ _ c.args.stack.now.items c.args.run.now _ _ _ c.requires.walking rest.1).next,
      );
    }

pub after-requires-clause-known : goal.after-requires-clause-known
after-requires-clause-known g c =
    let f = topmost_in _ _ _ c.args.stack.now.items c.args.run.now c.args.report.now _ _ c.requires.walking.walks in
    let rest = has_rest c.args.run.now f.some in
    let at = next_at _ _ c.args.stack.now.items c.args.run.now _ _ _ c.requires.walking rest.1 in
    let n = at.next in
    let v = visited {limits = c.args.limits.now} (c.args.stack.now.items ++ option_to_list rest.0) _ n c.in-Ok.ensures.ok in
    let costs = looked_costs _ _ c.args.report.now.charge _ _ c.in-Ok.ensures.ok in
    (n.seen, n.a, rw (c.add-below.ensures.report, c.cost-cost.ensures) (looked_at n v.walks costs), at.known)

pub after-requires-clause-object : goal.after-requires-clause-object
after-requires-clause-object g c = grind (arith, common_steps, topmost_in, looked_place)

pub go_on-requires : goal.go_on-requires
go_on-requires g c =
    let m = g.M.Segments.segments c.args.message.now in
    let message : IsMessage m = search rules in search (rules, topmost_in)

pub returns-in-Ok-after : goal.returns-in-Ok-after
returns-in-Ok-after g c = record {
  ok = steps_on c.requires.walking (λ runs at.
      let n = at.next in
      let v = visited {limits = c.args.limits.now} runs _ n c.in-Ok.ensures.ok in
      let costs = looked_costs _ _ c.args.report.now.charge _ _ c.in-Ok.ensures.ok in
      let known = c.in-Ok-after.ensures.ok n.seen n.a (rw (c.add-below.ensures.report, c.cost-cost.ensures) (looked_at n v.walks costs)) at.known in
      rw (c.add-below.ensures.run, c.add-below.ensures.report) (search (rules, known))) c.go_on.ensures.runs;
  fits = c.go_on.ensures.fits;
  err = tt;
  known = tt;
}

pub returns-in-Err : goal.returns-in-Err
returns-in-Err g c =
    let f = topmost_in _ _ _ c.args.stack.now.items c.args.run.now c.args.report.now _ _ c.requires.walking.walks in
    let rest = has_rest c.args.run.now f.some in
    let at = next_at _ _ c.args.stack.now.items c.args.run.now _ _ _ c.requires.walking rest.1 in
    let fault = c.in-Err.ensures.err (c.args.stack.now.items ++ option_to_list rest.0) at.next in
    record { ok = tt; fits = tt; err = inr fault.0; known = inr (fault.0, at.next.seen, fault.1, at.known) }
