use Rattle.cap_spec.proofs.ProofNames.{flat_map, length, take, ◌*◌, ◌++◌, ◌+◌, ◌≡◌, ◌≤◌, packed_frame, table_of, pack_text}
use Rattle.cap_frame.specs.Bytes.{cut}
use Rattle.cap_calls.proofs.calls.pack_message.write_parts.Given as goal

-- the table and the segments so far are written
abbrev pub invariant-segments : goal.invariant-segments
invariant-segments l =
    let m = cut l.message.sizes.now l.message.bytes.now in
    let done = pack_text (table_of m) ++ flat_map pack_text (take l.s m) in record {
      at : l.at ≡ length done;
      size : length l.text ≡ length (packed_frame m);
      written : take l.at l.text ≡ done;
      small : l.at ≤ 2570 + 42949672960 * l.s;
    }
