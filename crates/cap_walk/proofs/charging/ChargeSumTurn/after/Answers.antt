use Rattle.cap_spec.proofs.ProofNames.{arith}
use Rattle.cap_walk.proofs.Turning.{costs_on}
use Rattle.cap_walk.proofs.charging.ChargeSumTurn.after.Goals as goal

pub returns-clause-ok : goal.returns-clause-ok
returns-clause-ok g c = λ seen a l known.
    let m = g.M.Segments.segments c.args._message.now in
    let reached = rw (l.segment, l.word) at l.trail.ahead_reached.0 in (
      rw c.from.ensures (costs_on _ _ _ reached l.costs known.0),
      omega (arith, c.from.ensures, known.1),
    )
