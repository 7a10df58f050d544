use Rattle.std.proofs.Common.{List, length, ℕ}
use Rattle.cap_trace.specs.TraceNames.{HasPassed}
use Rattle.cap_trace.proofs.seeking.go_on.Given as goal

abbrev pub invariant-up : goal.invariant-up
invariant-up l =
    (m : List (List ℕ)) (depth n : ℕ) → HasPassed m depth n l.fn.branches.items → HasPassed m depth n l.branches.items

abbrev pub decreases-up : goal.decreases-up
decreases-up l = length l.branches.items
