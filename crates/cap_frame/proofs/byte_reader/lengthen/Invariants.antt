use Rattle.std.proofs.Common.{List, vec_capacity, vec_len, ℕ, ◌++◌, ◌-◌, ◌≡◌, ◌≤◌}
use Rattle.cap_frame.proofs.byte_reader.lengthen.Given as goal

abbrev pub invariant-steps : goal.invariant-steps
invariant-steps l = record {
  kept : (more : List ℕ) × (l.bytes.items ≡ l.initial.bytes.items ++ more);
  longer : vec_len l.initial.bytes ≤ vec_len l.bytes;
  fits : vec_capacity l.initial.bytes ≤ vec_capacity l.bytes;
}

abbrev pub decreases-steps : goal.decreases-steps
decreases-steps l = l.end - vec_len l.bytes
