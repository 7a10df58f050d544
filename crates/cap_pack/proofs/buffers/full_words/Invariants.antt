use Rattle.cap_spec.proofs.ProofNames.{drop, length, min, take, ◌*◌, ◌/◌, ◌≡◌, ◌≤◌, full_run, plain_words}
use Rattle.cap_pack.proofs.buffers.full_words.Given as goal

abbrev pub invariant-words : goal.invariant-words
invariant-words l = record {
  most : l.most ≡ min (length l.bytes / 8) 255;
  within : l.count ≤ l.most;
  left : l.rest ≡ drop (8 * l.count) (take (8 * l.most) l.bytes);
  run : l.count ≤ full_run (plain_words l.bytes);
}

abbrev pub decreases-words : goal.decreases-words
decreases-words l = length l.rest
