use Rattle.cap_spec.proofs.ProofNames.{List, drop, flat_map, ℕ, pack_text}
use Rattle.cap_frame.specs.Bytes.{cut}
use Rattle.cap_text.specs.Writing.{Wrote}
use Rattle.cap_run.proofs.Passing.{Left}
use Rattle.cap_run.proofs.engines.passing.write_packed_contents.Given as goal

abbrev pub invariant-texts : goal.invariant-texts
invariant-texts g l = (before : g.row.O.Denot) (text : List ℕ) → Wrote g.O.ByteOut before l.initial.out text
    → Left g.O.ByteOut before l.out text (flat_map pack_text (cut l.message.sizes.now l.message.bytes.now))
    (flat_map pack_text (drop l.s (cut l.message.sizes.now l.message.bytes.now)))
