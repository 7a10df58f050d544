use Rattle.cap_spec.proofs.ProofNames.{◌∷◌, HasWord, rules}
use Rattle.cap_walk.proofs.Stacks.{looked_at, looked_costs, null_visited, visited}
use Rattle.cap_walk.proofs.LookedPlaces.{looked_place}
use Rattle.cap_walk.proofs.walking.turn_described.Goals as goal

pub after-requires-clause-object : goal.after-requires-clause-object
after-requires-clause-object g c =
    rw c.place-place.ensures (search (rules, looked_place))

pub after-requires-clause-known : goal.after-requires-clause-known
after-requires-clause-known g c =
    let n = c.requires.1.next in
    let v = visited {limits = c.args.limits.now} c.requires.0 _ n c.in-Some.ensures.looked in
    let costs = looked_costs _ _ c.args.report.now.charge _ _ c.in-Some.ensures.looked in
    (n.seen, n.a, rw (c.add-below.ensures.report, c.cost-cost.ensures) (looked_at n v.walks costs), c.requires.1.known)

pub returns-then-word-eq0-clause-ok : goal.returns-then-word-eq0-clause-ok
returns-then-word-eq0-clause-ok g c = λ runs at.
    let n = at.next in
    let null : HasWord _ c.args.s c.args.w 0 = rw c.if-word-eq0.true at c.word.ensures in
    let v = null_visited _ c.args.limits.now c.args.s c.args.w c.args.level runs c.args.report.now n null in
    rw (c.add.ensures.run, c.add.ensures.report) (record {
      walking = record {
        seen = n.a.path ∷ n.seen;
        ahead = v.later;
        walks = v.walks;
        known = g.met.T.Turn.passes c.args.turn.now _ n.seen n.a.path n.a.level n.a.segment n.a.word
            n.progress.trail.ahead_reached.0 (rw (n.segment, n.at) null) at.known;
      };
      less = v.less;
    })

pub returns-in-Ok-clause-ok : goal.returns-in-Ok-clause-ok
returns-in-Ok-clause-ok g c = λ runs at.
    let n = at.next in
    let v = visited {limits = c.args.limits.now} runs _ n c.in-Some.ensures.looked in
    let costs = looked_costs _ _ c.args.report.now.charge _ _ c.in-Some.ensures.looked in
    let known = c.in-Ok.ensures.ok n.seen n.a (rw (c.add-below.ensures.report, c.cost-cost.ensures) (looked_at n v.walks costs)) at.known in
    search (rules, known)
