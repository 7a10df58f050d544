use Rattle.std.proofs.Common.{ℕ, ◌<◌, ◌≤◌}
use Rattle.cap_calls.specs.RangeCalls.{kind_at}
use Rattle.cap_calls.proofs.calls.get_range.bad_step.Given as goal

abbrev pub invariant-steps : goal.invariant-steps
invariant-steps l = (i : ℕ) → i < l.at → kind_at l.steps i ≤ 1
