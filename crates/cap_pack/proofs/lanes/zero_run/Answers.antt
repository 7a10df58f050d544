use Rattle.std.proofs.Common.{arith, eq-eqb, ne_eqb, ◌==◌}
use Rattle.cap_pack.proofs.Runs.{run_ends, run_more}
use Rattle.cap_pack.proofs.lanes.zero_run.Goals as goal

pub loop-i-preserved : goal.loop-i-preserved
loop-i-preserved c = run_more (λ x. x == 0) c.loop-i.i c.args.words.now (omega arith) (eq-eqb _ 0 c.if-words-i-eq0.true) c.loop-i.invariant

pub returns-else-words-i-eq0 : goal.returns-else-words-i-eq0
returns-else-words-i-eq0 c = run_ends (λ x. x == 0) c.loop-i.i c.args.words.now (λ _. ne_eqb _ 0 (λ e. absurd (omega arith))) c.loop-i.invariant

pub returns-after-loop-i : goal.returns-after-loop-i
returns-after-loop-i c = run_ends (λ x. x == 0) c.loop-i.i c.args.words.now (λ l. absurd (omega arith)) c.loop-i.invariant
