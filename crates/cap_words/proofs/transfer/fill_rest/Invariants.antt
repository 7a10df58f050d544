use Rattle.cap_spec.proofs.ProofNames.{length, take, ◌-◌, ◌≤◌, Consumes}
use Rattle.cap_words.proofs.Turns.{Moved}
use Rattle.cap_words.proofs.transfer.fill_rest.Given as goal

abbrev pub invariant-loop-len : goal.invariant-loop-len
invariant-loop-len g l = record {
  within : l.len ≤ length l.buf;
  taken : Consumes (g.I.ByteIn.to_come l.initial.input) (g.I.ByteIn.to_come l.input) (take l.len l.buf);
  moved : Moved g.I.ByteIn.broken g.I.ByteIn.failures l.len l.initial.input l.input;
}

abbrev pub decreases-loop-len : goal.decreases-loop-len
decreases-loop-len g l = length l.buf - l.len
