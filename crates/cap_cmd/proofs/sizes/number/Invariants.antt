use Rattle.std.proofs.Common.{length, take, ◌-◌, ◌≡◌, ◌≤◌}
use Rattle.cap_cmd.specs.Sizes.{capped_number, number_after}
use Rattle.cap_cmd.proofs.sizes.number.Given as goal

abbrev pub invariant-loop-count : goal.invariant-loop-count
invariant-loop-count l = record {
  within : l.count ≤ length l.digits;
  value : l.number ≡ capped_number (number_after 0 (take l.count l.digits));
}

abbrev pub decreases-loop-count : goal.decreases-loop-count
decreases-loop-count l = length l.digits - l.count
