use Rattle.cap_spec.proofs.ProofNames.{drop, length, take, ◌++◌, ◌+◌, ◌-◌, ◌≡◌, ◌≤◌, pack_text, plain_words}
use Rattle.cap_pack.proofs.buffers.write_text.Given as goal

-- the text so far and that of the words that are left are the whole text
abbrev pub invariant-writing : goal.invariant-writing
invariant-writing l = record {
  inside : l.at ≤ length l.bytes;
  fits : length l.text ≡ l.len + length (pack_text (plain_words (drop l.at l.bytes)));
  encoded : take l.len l.text ++ pack_text (plain_words (drop l.at l.bytes)) ≡ pack_text (plain_words l.bytes);
}

abbrev pub decreases-writing : goal.decreases-writing
decreases-writing l = length l.bytes - l.at
