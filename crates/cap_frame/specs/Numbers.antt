-- The numbers of the table of a message, without its padding (profile).
use Rattle.std.specs.Prelude.{List, drop, length, slice_index, ℕ, ◌*◌, ◌+◌, ◌-◌, ◌^◌, ◌∷◌}
use Rattle.cap_spec.specs.Frames.{paired, sizes_of}

-- how many segments there are besides the first, and the size of each
abbrev pub numbers_of : List (List ℕ) → List ℕ
numbers_of m = (length m - 1) ∷ sizes_of m

-- number k and the one after it in one word, 0 for a number past the last
abbrev pub pair_at : List ℕ → ℕ → ℕ
pair_at numbers k = slice_index numbers k + 2 ^ 32 * slice_index numbers (k + 1)

-- the words of the table after its first
abbrev pub table_rest : List (List ℕ) → List ℕ
table_rest m = paired (drop 2 (numbers_of m))
