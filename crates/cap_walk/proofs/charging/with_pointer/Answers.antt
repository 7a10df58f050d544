use Rattle.cap_spec.proofs.ProofNames.{arith, rules}
use Rattle.cap_spec.proofs.Verdicts.OneFault.{costs_not_wrong}
use Rattle.cap_walk.specs.WalkNames.{depth_of, words_of}
use Rattle.cap_walk.proofs.Looks.{followed_costs}
use Rattle.cap_walk.proofs.ChargeUpTo.{charge_small, charge_with, charge_within, cost_there, other_reason, past_exists}
use Rattle.cap_walk.proofs.ChargeUpTo.{refused_of}
use Rattle.cap_walk.proofs.charging.with_pointer.Goals as goal

pub returns-else-is_past_limit-clause-none : goal.returns-else-is_past_limit-clause-none
returns-else-is_past_limit-clause-none g c =
    let before = c.requires.before in
    other_reason _ (words_of c.args.limits.now) (depth_of c.args.limits.now) _
    (refused_of _ _ _ c.args.charge _ before) (c.is_past_limit.ensures.no c.if-is_past_limit.false)

pub follow-requires : goal.follow-requires
follow-requires g c =
    let cost = cost_there _ _ _ c.args.charge _ c.requires.before (c.is_past_limit.ensures.yes c.if-is_past_limit.true) in
    let there = past_exists _ _ _ cost.0 cost.1 in
    record { exists = there.0; inside = there.1 }

pub overflow_cast-result : goal.overflow_cast-result
overflow_cast-result g c =
    let within = charge_within _ _ _ c.args.charge _ c.requires.before (search rules) in
    omega (arith, within, c.args.limits.now.few)

pub overflow_add-result : goal.overflow_add-result
overflow_add-result g c =
    let r = c.args.refusal.now in
    let within = charge_within _ _ _ c.args.charge r c.requires.before (search rules) in
    omega (arith, within, c.args.limits.now.few, c.charge.ensures, charge_small _ r.segment r.word c.in-Ok.followed c.in-Ok.ensures.ok)

pub returns-in-Ok-clause-some : goal.returns-in-Ok-clause-some
returns-in-Ok-clause-some g c =
    let m = g.M.Segments.segments c.args.message.now in
    let r = c.args.refusal.now in
    let charge = charge_with m _ _ c.args.charge r c.requires.before (c.is_past_limit.ensures.yes c.if-is_past_limit.true) _
    (followed_costs m r.segment r.word c.in-Ok.followed c.in-Ok.ensures.ok) in
    rw c.charge.ensures charge

pub returns-in-Err-clause-none : goal.returns-in-Err-clause-none
returns-in-Err-clause-none g c =
    let r = c.args.refusal.now in
    let cost = cost_there _ _ _ c.args.charge r c.requires.before (search rules) in
    absurd (costs_not_wrong _ r.segment r.word cost.0 _ cost.1 c.in-Err.ensures.err)
