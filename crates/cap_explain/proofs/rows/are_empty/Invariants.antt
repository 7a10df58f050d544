use Rattle.cap_spec.proofs.ProofNames.{◌+◌, ◌≡◌, ◌≤◌}
use Rattle.cap_explain.specs.CopyWords.{are_empty}
use Rattle.cap_explain.proofs.rows.are_empty.Given as goal

abbrev pub invariant-loop-left : goal.invariant-loop-left
invariant-loop-left g l = record {
  few : l.left ≤ l.row.count;
  same : are_empty (g.M.Segments.segments l.message) l.as_pointer l.row.segment l.at (l.row.data_words + l.row.pointers) l.row.count
      ≡ are_empty (g.M.Segments.segments l.message) l.as_pointer l.row.segment l.at (l.row.data_words + l.row.pointers) l.left;
}

abbrev pub decreases-loop-left : goal.decreases-loop-left
decreases-loop-left g l = l.left
