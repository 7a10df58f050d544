use Rattle.cap_spec.proofs.ProofNames.{arith, leb, zero_bytes}
use Rattle.cap_pack.proofs.Runs.{run_goes_on}
use Rattle.cap_pack.proofs.lanes.vectors.fulls_of_eights.Goals as goal

pub returns-then-fulls-lt8 : goal.returns-then-fulls-lt8
returns-then-fulls-lt8 c =
    omega (arith, run_goes_on (λ x. leb (zero_bytes x) 1) c.loop-i.i 8 c.args.words.now c.loop-i.invariant.run, c.fulls_of_eight-fulls.ensures)

pub loop-i-preserved : goal.loop-i-preserved
loop-i-preserved c = record {
  within = omega arith;
  run = omega (arith, run_goes_on (λ x. leb (zero_bytes x) 1) c.loop-i.i 8 c.args.words.now c.loop-i.invariant.run, c.fulls_of_eight-fulls.ensures);
}
