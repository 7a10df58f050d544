use Rattle.cap_spec.proofs.ProofNames.{length, ◌-◌, ◌≤◌, full_run}
use Rattle.cap_pack.proofs.lanes.vectors.fulls_of_eights.Given as goal

abbrev pub invariant-loop-i : goal.invariant-loop-i
invariant-loop-i l = record {
  within : l.i ≤ length l.words;
  run : l.i ≤ full_run l.words;
}

abbrev pub decreases-loop-i : goal.decreases-loop-i
decreases-loop-i l = length l.words - l.i
