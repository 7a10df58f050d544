use Rattle.cap_calls.specs.Slices.{bytes_of}
use Rattle.cap_calls.proofs.SliceSegments.{SumSoFar}
use Rattle.cap_calls.proofs.slices.total.Given as goal

abbrev pub invariant-slices : goal.invariant-slices
invariant-slices l = SumSoFar (bytes_of l.slices) l.s l.words
