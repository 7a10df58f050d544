use Rattle.cap_spec.proofs.ProofNames.{List, drop, length, ℕ, ◌-◌, ◌≤◌, pack_text, plain_words}
use Rattle.cap_text.specs.Writing.{Wrote}
use Rattle.cap_run.proofs.Passing.{Left}
use Rattle.cap_run.proofs.engines.passing.write_packed_more.Given as goal

-- the text of the words that are left is still to be written
abbrev pub invariant-parts : goal.invariant-parts
invariant-parts g l = record {
  inside : l.done ≤ length l.bytes;
  left : (before : g.row.O.Denot) (text : List ℕ) → Wrote g.O.ByteOut before l.initial.out text
      → Left g.O.ByteOut before l.out text (pack_text (plain_words l.bytes)) (pack_text (plain_words (drop l.done l.bytes)));
}

abbrev pub decreases-parts : goal.decreases-parts
decreases-parts g l = length l.bytes - l.done
