use Rattle.std.proofs.Common.{List, length, ℕ, ◌-◌, ◌<◌, ◌≤◌}
use Rattle.cap_run.specs.LastLines.{GivesReason}
use Rattle.cap_run.proofs.engines.sentence.last_start.Given as goal

abbrev pub invariant-loop-start : goal.invariant-loop-start
invariant-loop-start l = record {
  inside : l.start ≤ length l.lines - 2;
  after : (sentence : List ℕ) → (r : GivesReason l.lines sentence) → length r.before < l.start;
}

abbrev pub decreases-loop-start : goal.decreases-loop-start
decreases-loop-start l = l.start
