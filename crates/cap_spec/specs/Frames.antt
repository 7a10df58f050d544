-- The words that frame a message: a table of half words, and then the words of its segments (standard: Serialization
-- Over a Stream; any padding is the profile's).
use Rattle.std.specs.List.{AllByRecursion}
use Rattle.std.specs.Prelude.{Bool, List, [], flat_map, length, map, sum, true, ℕ, ◌%◌, ◌*◌, ◌++◌, ◌+◌, ◌-◌, ◌/◌, ◌<◌}
use Rattle.std.specs.Prelude.{◌^◌, ◌∷◌, ◌≡◌, ◌≤◌}

-- the numbers in the low and the high four bytes of a word
abbrev pub halves : ℕ → List ℕ
halves x = x % 2 ^ 32 ∷ x / 2 ^ 32 ∷ []

-- the segments joined
abbrev pub joined : List (List ℕ) → List ℕ
joined m = flat_map (λ segment. segment) m

-- the sizes of its segments
abbrev pub sizes_of : List (List ℕ) → List ℕ
sizes_of m = map length m

-- These words are the table of segments of these sizes, with any padding.
pub record IsTable (table sizes : List ℕ) : Type 0 where
  pub some : 1 ≤ length sizes
  pub few : length sizes ≤ 512
  pub fit : AllByRecursion (λ n. n < 2 ^ 32) sizes
  pub padding : List ℕ
  pub padding_fits : AllByRecursion (λ n. n < 2 ^ 32) padding
  -- up to the next word
  pub width : length padding ≡ (1 + length sizes) % 2
  pub numbers : flat_map halves table ≡ (length sizes - 1) ∷ (sizes ++ padding)

-- These words frame the message.
pub record Frames (words : List ℕ) (m : List (List ℕ)) : Type 0 where
  pub table : List ℕ
  pub is_table : IsTable table (sizes_of m)
  pub whole : words ≡ table ++ joined m

-- numbers in pairs, the first of each in the low half of a word, the last by itself where it has no other
abbrev pub paired : List ℕ → List ℕ
paired [] = []
paired (a ∷ []) = a ∷ []
paired (a ∷ b ∷ rest) = (a + 2 ^ 32 * b) ∷ paired rest

-- the words that frame the message with zero padding
abbrev pub frame_text : List (List ℕ) → List ℕ
frame_text m = paired ((length m - 1) ∷ sizes_of m) ++ joined m

-- These words frame the message, and the padding of their table is zero.
pub record FramesZero (words : List ℕ) (m : List (List ℕ)) : Type 0 where
  pub frames : Frames words m
  pub zero_padding : AllByRecursion (λ (n : ℕ). n ≡ 0) frames.is_table.padding

-- These words are frames of these messages, one after the other.
pub record Stream (words : List ℕ) (ms : List (List (List ℕ))) : Type 0 where
  pub frames : List (List ℕ × List (List ℕ))
  pub each : AllByRecursion (λ f. Frames f.0 f.1) frames
  pub whole : words ≡ flat_map (λ f. f.0) frames
  pub messages : ms ≡ map (λ f. f.1) frames

-- The words begin a frame of at most 512 segments and end inside it. Where the table is whole, it is within the limit.
pub data IsPartial (limit : ℕ) (words : List ℕ) (cut : Bool) : Type 0 where
  -- not one whole word
  in_word : words ≡ [] → cut ≡ true → IsPartial limit words cut
  -- a table of n div 2 + 1 words isn't whole
  in_table : (first : ℕ) (rest : List ℕ) → words ≡ first ∷ rest → first % 2 ^ 32 < 512 → length rest < (first % 2 ^ 32 + 1) / 2 → IsPartial limit words cut
  -- the contents aren't whole
  in_contents : (table sizes rest : List ℕ) → words ≡ table ++ rest → IsTable table sizes → sum sizes ≤ limit → length rest < sum sizes
      → IsPartial limit words cut
