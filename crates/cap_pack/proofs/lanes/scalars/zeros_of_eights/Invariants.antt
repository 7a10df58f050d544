use Rattle.cap_spec.proofs.ProofNames.{length, ◌-◌, ◌≤◌, zero_run}
use Rattle.cap_pack.proofs.lanes.scalars.zeros_of_eights.Given as goal

abbrev pub invariant-loop-i : goal.invariant-loop-i
invariant-loop-i l = l.i ≤ zero_run l.words

abbrev pub decreases-loop-i : goal.decreases-loop-i
decreases-loop-i l = length l.words - l.i
