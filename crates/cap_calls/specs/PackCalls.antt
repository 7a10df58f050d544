-- What the calls that pack and unpack return and write, from the bytes alone
-- (standard: Packing; the order of the answers is the profile's).
use Rattle.std.specs.Prelude.{List, drop, false, length, true, ℕ, ◌++◌, ◌<◌, ◌^◌, ◌≡◌, ◌≤◌}
use Rattle.cap_spec.specs.SpecNames.{pack_text, plain_is_cut, plain_text, plain_words, packed_is_cut, unpacked}
use Rattle.cap_calls.specs.declared.answer.Answer.{Answer}
use Rattle.cap_calls.specs.declared.answer.Answer.TheVariants.{BufferTooSmall, Good, TooLarge, Truncated}

-- A text of bytes for this buffer, which held these: whether it fits, how many bytes it takes, and
-- what the buffer holds then.
pub data ReportsText (text old : List ℕ) (a : Answer) (n : ℕ) (new : List ℕ) : Type 0 where
  too_small : length old < length text → a ≡ BufferTooSmall → n ≡ length text → new ≡ old → ReportsText text old a n new
  written : length text ≤ length old → a ≡ Good → n ≡ length text → new ≡ text ++ drop (length text) old
      → ReportsText text old a n new

-- of the words that the bytes encode
pub data ReportsUnpack (bytes old : List ℕ) (a : Answer) (n : ℕ) (new : List ℕ) : Type 0 where
  too_large : 2 ^ 53 < length bytes → a ≡ TooLarge → n ≡ 0 → new ≡ old → ReportsUnpack bytes old a n new
  cut : length bytes ≤ 2 ^ 53 → packed_is_cut bytes ≡ true → a ≡ Truncated → n ≡ 0 → new ≡ old
      → ReportsUnpack bytes old a n new
  whole : length bytes ≤ 2 ^ 53 → packed_is_cut bytes ≡ false → ReportsText (plain_text (unpacked bytes)) old a n new
      → ReportsUnpack bytes old a n new

-- of the one packed text of the words that the bytes are
pub data ReportsPack (bytes old : List ℕ) (a : Answer) (n : ℕ) (new : List ℕ) : Type 0 where
  cut : plain_is_cut bytes ≡ true → a ≡ Truncated → n ≡ 0 → new ≡ old → ReportsPack bytes old a n new
  whole : plain_is_cut bytes ≡ false → ReportsText (pack_text (plain_words bytes)) old a n new
      → ReportsPack bytes old a n new
