use Rattle.std.proofs.Common.{vec_capacity, ◌-◌, ◌≤◌}
use Rattle.cap_frame.proofs.InOneBuffer.{BytesSoFar}
use Rattle.cap_frame.proofs.byte_reader.read_bytes.Given as goal

abbrev pub invariant-pieces : goal.invariant-pieces
invariant-pieces g l = BytesSoFar g.S.WordSource l.initial.source l.source l.done l.bytes.items × (l.done ≤ l.need) × (l.need ≤ vec_capacity l.bytes)

abbrev pub decreases-pieces : goal.decreases-pieces
decreases-pieces g l = l.need - l.done
