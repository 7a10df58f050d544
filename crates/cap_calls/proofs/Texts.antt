-- The bytes decide what the calls that pack and unpack answer and write.
use Rattle.cap_spec.proofs.Bytes.Plain.{length_plain}
use Rattle.cap_spec.proofs.ProofNames.{List, drop, false, length, ℕ, ◌*◌, ◌++◌, ◌<◌, ◌^◌, ◌≡◌}
use Rattle.cap_spec.proofs.ProofNames.{◌≤◌, false≢true, plain_text, packed_is_cut, unpacked, rules}
use Rattle.cap_calls.specs.PackCalls.{ReportsUnpack}
use Rattle.cap_calls.specs.CallNames.{ReportsText, Answer, BufferTooSmall, Good}

-- A text and a buffer allow one answer.
pub one_text : (text old : List ℕ) (a b : Answer) (n k : ℕ) (xs ys : List ℕ) → ReportsText text old a n xs
    → ReportsText text old b k ys →
    (a ≡ b) × (n ≡ k) × (xs ≡ ys)
one_text text old a b n k xs ys h e = search rules

-- So do packed bytes and a buffer.
pub one_unpack_reported : (bs old : List ℕ) (a b : Answer) (n k : ℕ) (xs ys : List ℕ) → ReportsUnpack bs old a n xs
    → ReportsUnpack bs old b k ys →
    (a ≡ b) × (n ≡ k) × (xs ≡ ys)
one_unpack_reported bs old a b n k xs ys h e = search (rules, one_text, false≢true)

-- The words are at the start of the buffer, and the bytes after them stay.
pub unpack_written : (bs old : List ℕ) (n : ℕ) → length bs ≤ 2 ^ 53 → packed_is_cut bs ≡ false
    → n ≡ 8 * length (unpacked bs) → n ≤ length old →
    ReportsUnpack bs old Good n (plain_text (unpacked bs) ++ drop n old)
unpack_written bs old n l w e r = search (rules, length_plain)

-- Or they do not fit.
pub unpack_too_small : (bs old : List ℕ) (n : ℕ) → length bs ≤ 2 ^ 53 → packed_is_cut bs ≡ false
    → n ≡ 8 * length (unpacked bs) → length old < n →
    ReportsUnpack bs old BufferTooSmall n old
unpack_too_small bs old n l w e r = search (rules, length_plain)
