use Rattle.cap_spec.proofs.Frames.Messages.{HasWord-at}
use Rattle.cap_spec.proofs.ProofNames.{arith, inr, length, rules, ℕ, ◌<◌, HasWord, segment_of}
use Rattle.cap_vet.proofs.Charging.{arrives_root, fault_root}
use Rattle.cap_walk.proofs.Looks.{followed_costs, followed_shallow}
use Rattle.cap_walk.proofs.Verdicts.{no_root_at}
use Rattle.cap_vet.proofs.nodes.charged.at_root.Goals as goal

pub returns-then-len-eq0-clause-err : goal.returns-then-len-eq0-clause-err
returns-then-len-eq0-clause-err g c = search (rules, no_root_at)

pub returns-in-Ok-clause-ok : goal.returns-in-Ok-clause-ok
returns-in-Ok-clause-ok g c =
    let m = g.M.Segments.segments c.args.message.now in
    let some : 0 < length (segment_of m 0) = omega (arith, c.if-len-eq0.false, c.len.ensures) in
    let root : (x : ℕ) × HasWord m 0 0 x = HasWord-at m 0 0 some in
    let h = c.in-Ok.ensures.ok in
    arrives_root m _ _ root.0 _ _ c.first_lax.result root.1 (c.found_of.ensures m 0 0 (search rules) h.followed)
    (rw c.charge.ensures (followed_costs m 0 0 c.in-Ok.followed h.followed))
    (omega (arith, c.charge.ensures, h.within)) (followed_shallow m _ c.in-Ok.followed h.followed h.shallow)
    c.first_lax.ensures

pub returns-in-Err-clause-err : goal.returns-in-Err-clause-err
returns-in-Err-clause-err g c = λ path.
    let m = g.M.Segments.segments c.args.message.now in
    let some : 0 < length (segment_of m 0) = omega (arith, c.if-len-eq0.false, c.len.ensures) in
    let root : (x : ℕ) × HasWord m 0 0 x = HasWord-at m 0 0 some in
    inr (fault_root m _ _ root.0 path _ root.1 (c.in-Err.ensures.err c.args.words 0 (omega arith) (omega arith)))

pub first_lax-requires-clause-followed : goal.first_lax-requires-clause-followed
first_lax-requires-clause-followed g c = search (rules, followed_costs)
