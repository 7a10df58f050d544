-- Which words of a message are marked in a flat map of bits (profile).
use Rattle.std.specs.Int.{bit_at}
use Rattle.std.specs.Prelude.{List, length, slice_index, sum, ℕ, ◌%◌, ◌*◌, ◌+◌, ◌/◌, ◌<◌, ◌^◌, ◌≡◌}
use Rattle.std.specs.Prelude.{◌≤◌}
use Rattle.cap_spec.specs.SpecNames.{sizes_of, segment_of}
use Rattle.cap_frame.specs.SegmentStarts.{start_of}
use Rattle.cap_spec.specs.declared.Step.{Step}
use Rattle.cap_vet.specs.Marks.{IsMarked}

-- bit i of all the words, 0 or 1
abbrev pub bit_in : List ℕ → ℕ → ℕ
bit_in words i = bit_at (slice_index words (i / 64)) (i % 64)

-- how many numbers of 64 bits are taken for a bit for each of a message's words
abbrev pub marks_of : List (List ℕ) → ℕ
marks_of m = sum (sizes_of m) / 64 + 1

-- the word exists, and its bit is set
abbrev pub IsTaken : List (List ℕ) → List ℕ → ℕ → ℕ → Type 0
IsTaken m bits s w = (s < length m) × (w < length (segment_of m s)) × (bit_in bits (start_of m s + w) ≡ 1)

-- The starts are those of the message's segments.
pub record AreStarts (m : List (List ℕ)) (starts : List ℕ) : Type 0 where
  pub many : length starts ≡ length m
  pub each : (s : ℕ) → s < length m → slice_index starts s ≡ start_of m s
  pub few : start_of m (length m) < 2 ^ 42

-- There is a bit for each word.
pub record HasCapacity (m : List (List ℕ)) (starts bits : List ℕ) : Type 0 where
  pub known : AreStarts m starts
  pub enough : start_of m (length m) ≤ 64 * length bits

-- There is a bit for each word. The root word and the words that these paths use are marked, and none is used twice.
pub record HasMarked (m : List (List ℕ)) (seen : List (List Step)) (starts bits : List ℕ) : Type 0 where
  pub fits : HasCapacity m starts bits
  pub marked : IsMarked m seen (IsTaken m bits)
