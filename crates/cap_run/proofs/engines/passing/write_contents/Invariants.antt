use Rattle.cap_spec.proofs.ProofNames.{List, drop, ℕ, joined, plain_text}
use Rattle.cap_frame.specs.Bytes.{cut}
use Rattle.cap_text.specs.Writing.{Wrote}
use Rattle.cap_run.proofs.Passing.{Left}
use Rattle.cap_run.proofs.engines.passing.write_contents.Given as goal

abbrev pub invariant-segments : goal.invariant-segments
invariant-segments g l = (before : g.row.O.Denot) (text : List ℕ) → Wrote g.O.ByteOut before l.initial.out text
    → Left g.O.ByteOut before l.out text (plain_text (joined (cut l.message.sizes.now l.message.bytes.now)))
    (plain_text (joined (drop l.s (cut l.message.sizes.now l.message.bytes.now))))
