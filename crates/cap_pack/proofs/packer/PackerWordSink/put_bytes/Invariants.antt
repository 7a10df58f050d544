use Rattle.cap_spec.proofs.ProofNames.{drop, length, true, ◌++◌, ◌-◌, ◌||◌, ◌≡◌, ◌≤◌, append_known, pack_text, plain_words}
use Rattle.cap_pack.specs.Holding.{held}
use Rattle.cap_pack.proofs.PuttingEach.{PutSoFar}
use Rattle.cap_pack.proofs.packer.PackerWordSink.put_bytes.Given as goal

abbrev pub invariant-loop-done : goal.invariant-loop-done
invariant-loop-done g l = record {
  within : l.done ≤ length l.bytes;
  put : PutSoFar (λ s ws. append_known (g.O.ByteOut.written s.output) (pack_text (held s.group s.words ++ ws))) (λ s. g.O.ByteOut.written s.output)
      (λ s. s.closed)
      (λ s. s.closed || g.O.ByteOut.broken s.output) (λ s. g.O.ByteOut.failures s.output) l.initial.self l.self (plain_words l.bytes)
      (plain_words (drop l.done l.bytes));
  idle : g.O.ByteOut.broken l.self.output ≡ true → l.self.output ≡ l.initial.self.output;
}

abbrev pub decreases-loop-done : goal.decreases-loop-done
decreases-loop-done g l = length l.bytes - l.done
