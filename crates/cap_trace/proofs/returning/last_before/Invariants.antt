use Rattle.std.proofs.Common.{take, ℕ, ◌<◌, ◌≡◌, ◌≤◌}
use Rattle.cap_spec.proofs.ProofNames.{word}
use Rattle.cap_trace.specs.Branches.{last_spot}
use Rattle.cap_trace.proofs.returning.last_before.Given as goal

abbrev pub invariant-shorter : goal.invariant-shorter
invariant-shorter l = record {
  few : l.steps ≤ l.all;
  none : (k : ℕ) → l.steps ≤ k → k < l.all → last_spot (word 0 0) (take k l.branches) ≡ word l.here.segment l.here.at → ⊥;
}

abbrev pub decreases-shorter : goal.decreases-shorter
decreases-shorter l = l.steps
