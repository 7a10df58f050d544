use Rattle.cap_spec.specs.Denoting.{places}
use Rattle.cap_spec.proofs.ProofNames.{ℕ, ◌≤◌, children_needed, DenoteEach, Trees}
use Rattle.cap_canon.proofs.trimming.pointers_left.Given as goal

abbrev pub invariant-loop-left : goal.invariant-loop-left
invariant-loop-left g l = record {
  low : l.least ≤ l.left;
  high : l.left ≤ l.count;
  needed : (ts : Trees) (c d : ℕ) → DenoteEach (g.M.Segments.segments l.message) (places l.segment l.start l.count) ts c d → children_needed ts ≤ l.left;
}

abbrev pub decreases-loop-left : goal.decreases-loop-left
decreases-loop-left g l = l.left
