use Rattle.cap_spec.proofs.ProofNames.{◌≡◌, ◌≤◌}
use Rattle.cap_explain.specs.CopyWords.{words_left}
use Rattle.cap_explain.proofs.rows.words_left.Given as goal

abbrev pub invariant-loop-left : goal.invariant-loop-left
invariant-loop-left g l = record {
  few : l.left ≤ l.count;
  same : words_left (g.M.Segments.segments l.message) l.row l.as_pointer l.at l.count
      ≡ words_left (g.M.Segments.segments l.message) l.row l.as_pointer l.at l.left;
}

abbrev pub decreases-loop-left : goal.decreases-loop-left
decreases-loop-left g l = l.left
