use Rattle.cap_spec.proofs.ProofNames.{ℕ, ◌*◌, ◌+◌, ◌<◌, HasWord}
use Rattle.cap_difference.proofs.elements.end_in_zeros.Given as goal

abbrev pub invariant-elements : goal.invariant-elements
invariant-elements g l = (k : ℕ) → k < l.k → HasWord (g.M.Segments.segments l.message) l.row.segment (l.row.first + k * l.each + l.last) 0
