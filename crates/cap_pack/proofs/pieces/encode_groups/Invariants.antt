use Rattle.cap_spec.proofs.ProofNames.{List, drop, length, take, ℕ, ◌*◌, ◌++◌, ◌+◌, ◌-◌, ◌≡◌, ◌≤◌, pack_text}
use Rattle.cap_pack.proofs.pieces.encode_groups.Given as goal

abbrev pub invariant-loop-at : goal.invariant-loop-at
invariant-loop-at l = record {
  within : l.at ≤ length l.words;
  fits : l.len ≤ 2050 + 10 * l.at;
  encoded : (ws : List ℕ) → take l.start l.initial.text ++ pack_text (l.words ++ ws) ≡ take l.len l.text ++ pack_text (drop l.at l.words ++ ws);
}

abbrev pub decreases-loop-at : goal.decreases-loop-at
decreases-loop-at l = length l.words - l.at
