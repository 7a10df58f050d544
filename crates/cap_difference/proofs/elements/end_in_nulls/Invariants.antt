use Rattle.cap_spec.proofs.ProofNames.{ℕ, ◌*◌, ◌+◌, ◌<◌}
use Rattle.cap_difference.specs.Reasons.{IsNullAt}
use Rattle.cap_difference.proofs.elements.end_in_nulls.Given as goal

abbrev pub invariant-elements : goal.invariant-elements
invariant-elements g l = (k : ℕ) → k < l.k → IsNullAt (g.M.Segments.segments l.message) l.row.segment (l.row.first + k * l.each + l.last)
