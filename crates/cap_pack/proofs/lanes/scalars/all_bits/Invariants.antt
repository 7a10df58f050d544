use Rattle.cap_spec.proofs.ProofNames.{get_or, ℕ, ◌<◌, ◌≡◌}
use Rattle.cap_pack.proofs.lanes.scalars.all_bits.Given as goal

abbrev pub invariant-loop-word : goal.invariant-loop-word
invariant-loop-word l = l.bits ≡ 0 → (k : ℕ) → k < l.word-index → get_or l.words k 0 ≡ 0
