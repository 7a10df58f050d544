use Rattle.cap_spec.proofs.ProofNames.{get_or, zero_bytes, ℕ, ◌<◌, ◌≡◌, ◌≤◌}
use Rattle.cap_pack.proofs.lanes.scalars.second_gaps.Given as goal

abbrev pub invariant-loop-word : goal.invariant-loop-word
invariant-loop-word l = l.gaps ≡ 0 → (k : ℕ) → k < l.word-index → zero_bytes (get_or l.words k 0) ≤ 1
