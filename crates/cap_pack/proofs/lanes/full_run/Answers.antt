use Rattle.cap_spec.proofs.ProofNames.{arith, le-leb, leb, lt-leb, zero_bytes}
use Rattle.cap_pack.proofs.Runs.{run_ends, run_more}
use Rattle.cap_pack.proofs.lanes.full_run.Goals as goal

pub loop-i-preserved : goal.loop-i-preserved
loop-i-preserved c = run_more (λ x. leb (zero_bytes x) 1) c.loop-i.i c.args.words.now (omega arith)
    (le-leb _ 1 (omega (arith, c.count_zeros.ensures))) c.loop-i.invariant

pub returns-else-count_zeros-le1 : goal.returns-else-count_zeros-le1
returns-else-count_zeros-le1 c =
    run_ends (λ x. leb (zero_bytes x) 1) c.loop-i.i c.args.words.now (λ _. lt-leb _ 1 (omega (arith, c.count_zeros.ensures))) c.loop-i.invariant

pub returns-after-loop-i : goal.returns-after-loop-i
returns-after-loop-i c = run_ends (λ x. leb (zero_bytes x) 1) c.loop-i.i c.args.words.now (λ l. absurd (omega arith)) c.loop-i.invariant
