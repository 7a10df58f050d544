use Rattle.std.proofs.Common.{arith}
use Rattle.cap_run.proofs.LastLine.{at_blanks, before_blanks}
use Rattle.cap_run.proofs.engines.sentence.last_start.Goals as goal
use Rattle.cap_run.proofs.engines.sentence.last_start.Goals.{else-lines-start-eq32-via-then-lines-start-eq32+else-lines-start-eq32-2, else-lines-start-eq32-via-else-lines-start-eq32}

pub returns-then-lines-start-eq32-2-clause-last : goal.returns-then-lines-start-eq32-2-clause-last
returns-then-lines-start-eq32-2-clause-last c = λ sentence r.
    at_blanks c.args.lines.now sentence r c.loop-start.start (c.loop-start.invariant.after sentence r) c.loop-start.invariant.inside
    c.if-lines-start-eq32.true c.if-lines-start-eq32-2.true

pub loop-start-preserved : goal.loop-start-preserved
loop-start-preserved c = record {
  inside = omega (arith, c.loop-start.invariant.inside);
  after = λ sentence r. before_blanks c.args.lines.now sentence r c.loop-start.start (c.loop-start.invariant.after sentence r)
      (λ x y. elim c.else-lines-start-eq32.branch [
        | else-lines-start-eq32-via-then-lines-start-eq32+else-lines-start-eq32-2 w ↦ w.if-lines-start-eq32-2.false y
        | else-lines-start-eq32-via-else-lines-start-eq32 w ↦ w.if-lines-start-eq32.false x
      ]);
}

pub returns-clause-last : goal.returns-clause-last
returns-clause-last c = λ sentence r. absurd (omega (arith, c.loop-start.invariant.after sentence r, c.loop-start-test.false))
