-- The root, by a look at its pointer.
use Rattle.cap_spec.proofs.Frames.Messages.{HasWord-at}
use Rattle.cap_spec.proofs.ProofNames.{None, arith, length, ℕ, ◌<◌, HasWord, segment_of}
use Rattle.cap_vet.proofs.Charging.{arrives_root}
use Rattle.cap_vet.proofs.nodes.near_arrival.at_root_near.Goals as goal

pub returns-clause-at : goal.returns-clause-at
returns-clause-at g c =
    let m = g.M.Segments.segments c.args.message.now in
    let some : 0 < length (segment_of m 0) = omega (arith, c.if-len-eq0.false, c.len.ensures) in
    let root : (x : ℕ) × HasWord m 0 0 x = HasWord-at m 0 0 some in
    let near = c.in_ok-found.ensures.found in
    arrives_root m _ _ root.0 _ _ None root.1 near.found near.costs near.within near.shallow near.strict
