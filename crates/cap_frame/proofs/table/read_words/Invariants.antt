use Rattle.std.proofs.Common.{vec_capacity, ◌≤◌}
use Rattle.cap_frame.proofs.Contents.{WordsSoFar}
use Rattle.cap_frame.proofs.table.read_words.Given as goal

abbrev pub invariant-words : goal.invariant-words
invariant-words g l = record {
  far : WordsSoFar g.S.WordSource l.initial.source l.source l.words.items l.counter;
  fits : l.size ≤ vec_capacity l.words;
}
