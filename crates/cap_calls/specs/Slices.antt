-- Separate slices of bytes as the segments of a message (profile; standard: Messages, 64-bit Words).
use Rattle.std.specs.Borrow.{Bor}
use Rattle.std.specs.Prelude.{List, [], length, map, sum, ℕ, ◌%◌, ◌<◌, ◌≡◌, ◌≤◌}
use Rattle.cap_spec.specs.SpecNames.{sizes_of, segment_of, capped, plain_words}
use Rattle.cap_calls.specs.declared.slices.SlicesFault.{SlicesFault}
use Rattle.cap_calls.specs.declared.slices.SlicesFault.TheVariants.{BadSegment, NoSegments, TooLarge, TooManySegments}

-- the bytes of each slice
abbrev pub bytes_of : List (Bor (List ℕ)) → List (List ℕ)
bytes_of slices = map (λ s. s.now) slices

-- the words that each part of the bytes begins with
abbrev pub segments_in : List (List ℕ) → List (List ℕ)
segments_in parts = map plain_words parts

-- how many words they have together
abbrev pub words_of_slices : List (List ℕ) → ℕ
words_of_slices parts = sum (sizes_of (segments_in parts))

-- part s ends inside a word, and none before it does
pub record IsBadSegment (parts : List (List ℕ)) (s : ℕ) : Type 0 where
  pub inside : s < length parts
  pub cut : 0 < length (segment_of parts s) % 8
  pub before : (i : ℕ) → i < s → length (segment_of parts i) % 8 ≡ 0

-- no part ends inside a word
abbrev pub AreWhole : List (List ℕ) → Type 0
AreWhole parts = (i : ℕ) → i < length parts → length (segment_of parts i) % 8 ≡ 0

-- These are the segments of a message within the limit.
pub record AreSegments (limit : ℕ) (parts : List (List ℕ)) : Type 0 where
  pub some : 1 ≤ length parts
  pub few : length parts ≤ 512
  pub whole : AreWhole parts
  pub within : words_of_slices parts ≤ limit

-- why they aren't; the number of words stops at 2 ^ 64 - 1
abbrev pub ReportsNoSegments : ℕ → List (List ℕ) → SlicesFault → Type 0
ReportsNoSegments limit parts NoSegments = parts ≡ []
ReportsNoSegments limit parts (TooManySegments count) = (512 < length parts) × (count ≡ length parts)
ReportsNoSegments limit parts (BadSegment s) = (length parts ≤ 512) × IsBadSegment parts s
ReportsNoSegments limit parts (TooLarge words) = (length parts ≤ 512) × AreWhole parts × (limit < words_of_slices parts)
    × (words ≡ capped (words_of_slices parts))
