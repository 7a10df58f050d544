use Rattle.cap_spec.proofs.ProofNames.{flat_map, length, sum, take, ◌*◌, ◌≡◌, ◌≤◌, sizes_of, pack_text}
use Rattle.cap_frame.specs.Bytes.{cut}
use Rattle.cap_calls.proofs.calls.pack_message.segments_length.Given as goal

-- the segments so far are counted, each of less than 2 ^ 32 words
abbrev pub invariant-segments : goal.invariant-segments
invariant-segments l = record {
  text : l.total ≡ length (flat_map pack_text (take l.s (cut l.message.sizes.now l.message.bytes.now)));
  few : l.total ≤ 10 * sum (sizes_of (take l.s (cut l.message.sizes.now l.message.bytes.now)));
  small : l.total ≤ 42949672960 * l.s;
}
