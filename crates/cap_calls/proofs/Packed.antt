-- The bytes decide what packing answers and writes.
use Rattle.cap_spec.proofs.ProofNames.{List, arith, drop, false, length, refl, true, ℕ, ◌%◌, ◌++◌, ◌<◌, ◌≡◌}
use Rattle.cap_spec.proofs.ProofNames.{◌≤◌, false≢true, pack_text, plain_is_cut, plain_words, rules}
use Rattle.cap_words.proofs.Pieces.{plain_end}
use Rattle.cap_calls.specs.PackCalls.{ReportsPack, too_small, whole}
use Rattle.cap_calls.specs.CallNames.{Answer, BufferTooSmall, Good}
use Rattle.cap_calls.proofs.Texts.{one_text}

-- Bytes and a buffer allow one answer.
pub one_pack_reported : (bs old : List ℕ) (a b : Answer) (n k : ℕ) (xs ys : List ℕ) → ReportsPack bs old a n xs
    → ReportsPack bs old b k ys →
    (a ≡ b) × (n ≡ k) × (xs ≡ ys)
one_pack_reported bs old a b n k xs ys h e = search (rules, one_text, false≢true)

-- Their length decides whether they are words.
pub cut_by_length : (bs : List ℕ) → 0 < length bs % 8 → plain_is_cut bs ≡ true
cut_by_length bs some = (plain_end 0 bs (omega arith)).cut some

pub whole_by_length : (bs : List ℕ) → length bs % 8 ≡ 0 → plain_is_cut bs ≡ false
whole_by_length bs none = (plain_end 0 bs (omega arith)).whole none

-- The text is at the start of the buffer, and the bytes after it stay.
pub pack_written : (bs old new : List ℕ) (n : ℕ) → length bs % 8 ≡ 0 → n ≡ length (pack_text (plain_words bs))
    → n ≤ length old →
    new ≡ pack_text (plain_words bs) ++ drop n old → ReportsPack bs old Good n new
pack_written bs old new n w e r h = search (rules, whole_by_length)

-- Or it does not fit.
pub pack_too_small : (bs old new : List ℕ) (n : ℕ) → length bs % 8 ≡ 0 → n ≡ length (pack_text (plain_words bs))
    → length old < n → new ≡ old →
    ReportsPack bs old BufferTooSmall n new
pack_too_small bs old new n w e r h = whole (whole_by_length bs w) (too_small (omega (arith, e, r)) refl e h)
