-- The bytes of a word: they give the word, and each eight bytes are those of one.
use Rattle.std.proofs.Math.Nat.{div-div-eq-div-mul}
use Rattle.std.specs.Int.{bytes_low_first}
use Rattle.cap_spec.proofs.ProofNames.{List, [], arith, length, refl, suc, zero, ℕ, ◌*◌, ◌++◌, ◌+◌, ◌/◌, ◌<◌, ◌^◌, ◌∷◌}
use Rattle.cap_spec.proofs.ProofNames.{◌≡◌, pow-succ', byte_at, AllByRecursion, little_bytes, little_number}
use Rattle.cap_spec.proofs.ProofNames.{little_from-cons, little_number-reads_back, word_bytes, IsWord, rules}

-- with one byte more below, each byte is one place further up
byte_at_up : (i a y : ℕ) → a < 256 → byte_at (suc i) (a + 256 * y) ≡ byte_at i y
byte_at_up zero a y h = omega arith
byte_at_up (suc i) a y h =
    let q : (a + 256 * y) / 256 ≡ y = omega arith in
    search (rules, pow-succ', div-div-eq-div-mul)

-- so do all of them
bytes_up : (i k a y : ℕ) → a < 256 → bytes_low_first (suc i) k (a + 256 * y) ≡ bytes_low_first i k y
bytes_up i zero a y h = refl
bytes_up i (suc k) a y h = search (rules, byte_at_up, bytes_up (suc i) k a y h)

-- the bytes of the number that bytes make are these bytes
pub bytes_back : (bytes : List ℕ) → AllByRecursion (λ b. b < 256) bytes
    → little_bytes (length bytes) (little_number (length bytes) bytes) ≡ bytes
bytes_back [] a = refl
bytes_back (b ∷ bytes) a = search (rules, little_from-cons, bytes_up, bytes_back bytes a.1)

-- bytes make a number that is so large at most
pub bytes_below : (bytes : List ℕ) → AllByRecursion (λ b. b < 256) bytes
    → little_number (length bytes) bytes < 256 ^ length bytes
bytes_below [] a = omega arith
bytes_below (b ∷ bytes) a = search (rules, little_from-cons, bytes_below bytes a.1)

-- the bytes of a number are below 256
pub bytes_fit : (i k x : ℕ) → AllByRecursion (λ b. b < 256) (bytes_low_first i k x)
bytes_fit i zero x = tt
bytes_fit zero (suc k) x = ((omega arith), bytes_fit 1 k x)
bytes_fit (suc i) (suc k) x = ((omega arith), bytes_fit (suc (suc i)) k x)

-- the bytes of a word, whatever is after them, make the word
pub word_back : (x : ℕ) (rest : List ℕ) → IsWord x → little_number 8 (word_bytes x ++ rest) ≡ x
word_back x rest h = little_number-reads_back 8 x rest (omega arith)

-- a half of a word in bytes
abbrev pub four_bytes : ℕ → List ℕ
four_bytes x = little_bytes 4 x
