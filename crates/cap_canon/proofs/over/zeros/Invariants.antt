use Rattle.std.proofs.Common.{length, vec_capacity, ◌≡◌}
use Rattle.cap_canon.proofs.over.zeros.Given as goal

abbrev pub invariant-zeros : goal.invariant-zeros
invariant-zeros l = (length l.bytes.items ≡ l.counter) × (vec_capacity l.bytes ≡ l.count)
