use Rattle.cap_spec.proofs.ProofNames.{length, take, ◌-◌, ◌≤◌, Appends}
use Rattle.cap_words.proofs.Turns.{Moved}
use Rattle.cap_words.proofs.transfer.write_all.Given as goal

abbrev pub invariant-loop-done : goal.invariant-loop-done
invariant-loop-done g l = record {
  within : l.done ≤ length l.bytes;
  grown : Appends (g.O.ByteOut.written l.initial.output) (g.O.ByteOut.written l.output) (take l.done l.bytes);
  moved : Moved g.O.ByteOut.broken g.O.ByteOut.failures l.done l.initial.output l.output;
}

abbrev pub decreases-loop-done : goal.decreases-loop-done
decreases-loop-done g l = length l.bytes - l.done
