-- A framed message at the start of bytes (standard: Serialization Over a Stream; the limit is the
-- profile's).
use Rattle.std.specs.Prelude.{List, [], drop, flat_map, length, sum, take, ℕ, ◌%◌, ◌*◌, ◌++◌, ◌+◌, ◌/◌, ◌<◌, ◌^◌, ◌∷◌}
use Rattle.std.specs.Prelude.{◌≡◌, ◌≤◌}
use Rattle.cap_spec.specs.Frames.{IsTable, halves}
use Rattle.cap_spec.specs.SpecNames.{GivesTooMany, GivesTooMuch, Frames, sizes_of, plain_words}

-- The first n bytes are a frame of this message, which is within the limit.
pub record IsFront (limit : ℕ) (bytes : List ℕ) (m : List (List ℕ)) (n : ℕ) : Type 0 where
  pub own : List ℕ
  pub rest : List ℕ
  pub words : plain_words bytes ≡ own ++ rest
  pub frames : Frames own m
  pub within : sum (sizes_of m) ≤ limit
  pub long : n ≡ 8 * length own

-- The first word gives `count` segments, more than 512.
abbrev pub GivesMany : List ℕ → ℕ → Type 0
GivesMany bytes count = (t : GivesTooMany (plain_words bytes)) × (count ≡ t.first % 2 ^ 32 + 1)

-- The bytes begin with a table of at most 512 segments, whose sizes sum to `total` words, more than
-- the limit.
abbrev pub GivesLarge : ℕ → List ℕ → ℕ → Type 0
GivesLarge limit bytes total = (t : GivesTooMuch limit (plain_words bytes)) × (total ≡ sum t.sizes)

-- how many words the table of `count` segments has
abbrev pub table_words : ℕ → ℕ
table_words count = count / 2 + 1

-- Of words that end inside a frame: how many bytes there must be to learn more.
pub data Needs (words : List ℕ) (n : ℕ) : Type 0 where
  -- those of the first word
  a_word : words ≡ [] → n ≡ 8 → Needs words n
  -- those of the table
  a_table : (first : ℕ) (rest : List ℕ) → words ≡ first ∷ rest → length rest < (first % 2 ^ 32 + 1) / 2
      → n ≡ 8 * table_words (first % 2 ^ 32 + 1) → Needs words n
  -- those of the whole frame
  a_frame : (table sizes rest : List ℕ) → words ≡ table ++ rest → IsTable table sizes
      → n ≡ 8 * (length table + sum sizes) → Needs words n

-- the sizes of `count` segments, from the table at the start of the words
abbrev pub sizes_given : ℕ → List ℕ → List ℕ
sizes_given count words = take count (drop 1 (flat_map halves words))
