use Rattle.std.specs.Char.{is_ascii_digit}
use Rattle.std.proofs.Common.{get_or, length, true, ℕ, ◌-◌, ◌<◌, ◌≡◌, ◌≤◌}
use Rattle.cap_cmd.proofs.sizes.digit_count.Given as goal

abbrev pub invariant-loop-count : goal.invariant-loop-count
invariant-loop-count l = record {
  within : l.count ≤ length l.text;
  digits : (i : ℕ) → i < l.count → is_ascii_digit (get_or l.text i 0) ≡ true;
}

abbrev pub decreases-loop-count : goal.decreases-loop-count
decreases-loop-count l = length l.text - l.count
