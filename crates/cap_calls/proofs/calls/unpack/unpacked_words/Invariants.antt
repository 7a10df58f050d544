use Rattle.cap_spec.proofs.ProofNames.{drop, length, ◌*◌, ◌+◌, ◌-◌, ◌≡◌, ◌≤◌, packed_is_cut, unpacked}
use Rattle.cap_calls.proofs.calls.unpack.unpacked_words.Given as goal

-- the groups so far are counted, at most 128 words a byte
abbrev pub invariant-groups : goal.invariant-groups
invariant-groups l = record {
  inside : l.at ≤ length l.bytes;
  counted : length (unpacked l.bytes) ≡ l.words + length (unpacked (drop l.at l.bytes));
  ends : packed_is_cut l.bytes ≡ packed_is_cut (drop l.at l.bytes);
  few : l.words ≤ 128 * l.at;
}

abbrev pub decreases-groups : goal.decreases-groups
decreases-groups l = length l.bytes - l.at
