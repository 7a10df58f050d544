use Rattle.std.proofs.Common.{arith, ◌==◌}
use Rattle.cap_pack.proofs.Runs.{run_goes_on}
use Rattle.cap_pack.proofs.lanes.vectors.zeros_of_eights.Goals as goal

pub returns-then-zeros-lt8 : goal.returns-then-zeros-lt8
returns-then-zeros-lt8 c = omega (arith, run_goes_on (λ x. x == 0) c.loop-i.i 8 c.args.words.now c.loop-i.invariant.run, c.zeros_of_eight-zeros.ensures)

pub loop-i-preserved : goal.loop-i-preserved
loop-i-preserved c = record {
  within = omega arith;
  run = omega (arith, run_goes_on (λ x. x == 0) c.loop-i.i 8 c.args.words.now c.loop-i.invariant.run, c.zeros_of_eight-zeros.ensures);
}
