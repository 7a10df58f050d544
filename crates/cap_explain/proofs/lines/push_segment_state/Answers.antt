use Rattle.cap_spec.proofs.ProofNames.{length, arith, le-ltb}
use Rattle.cap_explain.proofs.lines.push_segment_state.Goals as goal

pub returns-else-segment-count-clause-items : goal.returns-else-segment-count-clause-items
returns-else-segment-count-clause-items g c =
    let m = g.M.Segments.segments c.args.message.now in
    let past = le-ltb c.args.segment (length m) (omega (arith, c.if-segment-count.false, c.count.ensures)) in
    rw (past, ← c.count-last.ensures, ← c.from-else-segment-count.ensures) c.push_named-else-segment-count.ensures.items
