-- The sizes that always suffice, as the macros of `include/capvet.h` give them (profile).
use Rattle.std.specs.Prelude.{ℕ, ◌*◌, ◌+◌, ◌/◌}

-- the most bytes of a frame whose segments have this many words: CAPVET_FRAME_BOUND
abbrev pub frame_bound : ℕ → ℕ
frame_bound words = words * 8 + 2056

-- numbers for the marks of an input of this length in bytes: CAPVET_MARKS_BOUND
abbrev pub marks_bound : ℕ → ℕ
marks_bound long = long / 512 + 1

-- the most bytes of a canonical copy for an input of this length, if it is unamplified: CAPVET_CANONICAL_BOUND
abbrev pub canonical_bound : ℕ → ℕ
canonical_bound long = long + 8 * (4096 + 1)

-- the most bytes that packing gives, by the length of the words in bytes: CAPVET_PACK_BOUND
abbrev pub pack_bound : ℕ → ℕ
pack_bound long = long / 8 * 10

-- the most bytes of an explanation: CAPVET_EXPLANATION_BOUND
abbrev pub explanation_bound : ℕ
explanation_bound = 6144

-- the most bytes of the lines of an overlap: CAPVET_OVERLAP_BOUND
abbrev pub overlap_bound : ℕ
overlap_bound = 12288
