use Rattle.cap_spec.proofs.ProofNames.{drop, length, ◌*◌, ◌+◌, ◌-◌, ◌≡◌, ◌≤◌, pack_text, plain_words}
use Rattle.cap_pack.proofs.buffers.packed_len.Given as goal

-- the groups so far are counted
abbrev pub invariant-counting : goal.invariant-counting
invariant-counting l = record {
  inside : l.at ≤ length l.bytes;
  counted : length (pack_text (plain_words l.bytes)) ≡ l.len + length (pack_text (plain_words (drop l.at l.bytes)));
  few : 4 * l.len ≤ 5 * l.at;
}

abbrev pub decreases-counting : goal.decreases-counting
decreases-counting l = length l.bytes - l.at
