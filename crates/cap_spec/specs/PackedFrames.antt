-- The packed text of a message (encoding: Packing, Serialization Over a Stream; the groups and the zero padding are the
-- profile's).
use Rattle.std.specs.Prelude.{List, flat_map, length, ℕ, ◌++◌, ◌-◌, ◌∷◌}
use Rattle.cap_spec.specs.Frames.{paired, sizes_of}
use Rattle.cap_spec.specs.Packing.{pack_text}

-- the words of a message's table, with zero padding
abbrev pub table_of : List (List ℕ) → List ℕ
table_of m = paired ((length m - 1) ∷ sizes_of m)

-- The packed text of a message. The table and each segment are packed by themselves, so no run of words goes on from one
-- into the next.
abbrev pub packed_frame : List (List ℕ) → List ℕ
packed_frame m = pack_text (table_of m) ++ flat_map pack_text m
