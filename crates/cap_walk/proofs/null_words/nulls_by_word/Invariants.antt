use Rattle.cap_spec.proofs.ProofNames.{ℕ, ◌+◌, ◌-◌, ◌<◌, ◌≤◌, HasWord}
use Rattle.cap_walk.proofs.null_words.nulls_by_word.Given as goal

abbrev pub invariant-nulls : goal.invariant-nulls
invariant-nulls g l = record {
  few : l.passed ≤ l.most;
  null : (k : ℕ) → k < l.passed → HasWord (g.M.Segments.segments l.message) l.segment (l.at + k) 0;
}

abbrev pub decreases-nulls : goal.decreases-nulls
decreases-nulls g l = l.most - l.passed
