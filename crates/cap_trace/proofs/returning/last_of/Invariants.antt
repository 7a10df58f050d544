use Rattle.std.proofs.Common.{List, None, length, take, ℕ, ◌<◌, ◌≤◌}
use Rattle.cap_trace.specs.Branches.{path_of}
use Rattle.cap_trace.specs.Returns.{EndsOnCycle, IsDown}
use Rattle.cap_trace.proofs.returning.last_of.Given as goal

abbrev pub invariant-shorter : goal.invariant-shorter
invariant-shorter l = record {
  few : l.steps ≤ length l.branches;
  none : (m : List (List ℕ)) → IsDown m l.branches → (k : ℕ) → l.steps < k → k ≤ length l.branches
      → EndsOnCycle m (path_of (take k l.branches)) None;
}

abbrev pub decreases-shorter : goal.decreases-shorter
decreases-shorter l = l.steps
