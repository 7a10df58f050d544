-- What the laws of framing say (standard: Serialization Over a Stream).
use Rattle.std.specs.List.{AllByRecursion}
use Rattle.std.specs.Prelude.{Bool, List, [], false, flat_map, length, ℕ, ◌%◌, ◌*◌, ◌++◌, ◌+◌, ◌-◌, ◌<◌, ◌^◌, ◌↔◌, ◌≡◌}
use Rattle.std.specs.Prelude.{◌≤◌}
use Rattle.byteorder.specs.Endian.{little_bytes}
use Rattle.cap_spec.specs.Endings.{BeginsMessage, Ending, EndsIn}
use Rattle.cap_spec.specs.Frames.{joined}
use Rattle.cap_spec.specs.SpecNames.{GivesTooMany, GivesTooMuch, Frames, IsPartial, sizes_of, plain_text, IsWord}

-- a number of four bytes, the lowest first
abbrev pub four_bytes : ℕ → List ℕ
four_bytes x = little_bytes 4 x

-- Reading a message ends in exactly one of the five ways, for each limit and each list of words. (The number 2 ^ 64
-- alone, which is no word, would end in none.)
abbrev pub OneEnding : Type 0
OneEnding = (limit : ℕ) (words : List ℕ) (cut : Bool) → AllByRecursion IsWord words →
    (ending : Ending) × EndsIn limit words cut ending × ((other : Ending) → EndsIn limit words cut other → other ≡ ending)

-- The bytes of a frame. First come the number of segments less one and the size of each, four bytes
-- each. Then comes padding up to the next word: no bytes, or any four. Then come the words of the
-- segments.
pub record FramesInBytes (bytes : List ℕ) (m : List (List ℕ)) : Type 0 where
  pub some : 1 ≤ length m
  pub few : length m ≤ 512
  pub fit : AllByRecursion (λ n. n < 2 ^ 32) (sizes_of m)
  pub padding : List ℕ
  pub are_bytes : AllByRecursion (λ b. b < 256) padding
  pub width : length padding ≡ 4 * ((1 + length m) % 2)
  pub whole : bytes ≡ four_bytes (length m - 1) ++ (flat_map four_bytes (sizes_of m) ++ (padding ++ plain_text (joined m)))

-- words frame a message just where their bytes do
abbrev pub FramesByBytes : Type 0
FramesByBytes = (words : List ℕ) (m : List (List ℕ)) → AllByRecursion IsWord words → AllByRecursion (AllByRecursion IsWord) m →
    Frames words m ↔ FramesInBytes (plain_text words) m

-- words end inside a frame just where none of the other four is so
abbrev pub PartialElse : Type 0
PartialElse = (limit : ℕ) (words : List ℕ) (cut : Bool) → AllByRecursion IsWord words →
    IsPartial limit words cut
    ↔ ((BeginsMessage limit words → ⊥) × (((words ≡ []) × (cut ≡ false)) → ⊥) × (GivesTooMany words → ⊥) × (GivesTooMuch limit words → ⊥))
