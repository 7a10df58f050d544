-- Words written as bytes over bytes that are there already.
use Rattle.std.proofs.Math.Seq.{take-set-lt}
use Rattle.cap_spec.proofs.Bytes.Plain.{length_plain, plain_back, words_exact}
use Rattle.cap_spec.proofs.ProofNames.{List, [], ap, append_assoc, ap₂, arith, drop, drop-drop, length, length-append}
use Rattle.cap_spec.proofs.ProofNames.{length-take-le, refl, set, suc, sym, take, take-append-drop, take_all, zero, ℕ}
use Rattle.cap_spec.proofs.ProofNames.{◌*◌, ◌++◌, ◌+◌, ◌<◌, ◌∙◌, ◌∷◌, ◌≡◌, ◌≤◌, take-set_at, take-append-le}
use Rattle.cap_spec.proofs.ProofNames.{AllByRecursion, put_mid, plain_text, plain_words, word_bytes, IsWord, rules}
use Rattle.cap_words.proofs.Filling.{plain_join}
use Rattle.cap_canon.specs.FirstWords.{first_words}

-- the bytes of a word in place of those of word p
words_set : (p : ℕ) (bytes : List ℕ) (w : ℕ) → IsWord w → 8 * p + 8 ≤ length bytes
    → plain_words (take (8 * p) bytes ++ (word_bytes w ++ drop (8 * p + 8) bytes)) ≡ set (plain_words bytes) p w
words_set zero (a ∷ b ∷ c ∷ d ∷ e ∷ f ∷ g ∷ x ∷ rest) w is h = plain_back (w ∷ []) rest (is, tt)
words_set (suc p) (a ∷ b ∷ c ∷ d ∷ e ∷ f ∷ g ∷ x ∷ rest) w is h =
    let bytes = a ∷ b ∷ c ∷ d ∷ e ∷ f ∷ g ∷ x ∷ rest in
    let front : 8 * suc p ≡ suc (suc (suc (suc (suc (suc (suc (suc (8 * p)))))))) = omega arith in
    search (rules, words_set p rest w is (omega (arith, h)))
words_set p rest w is h = search rules

-- the same by what a part of bytes was overwritten with
pub words_put : (p k : ℕ) (bytes given : List ℕ) (w : ℕ) → IsWord w → k ≡ 8 → 8 * p + 8 ≤ length bytes → given ≡ word_bytes w
    → plain_words (put_mid (8 * p) k bytes given) ≡ set (plain_words bytes) p w
words_put p k bytes given w is eight h e = search (rules, drop-drop, words_set)

-- a vector whose slice was written over holds what the slice then held
pub written_back : (n : ℕ) (given items : List ℕ) → length given ≡ n → take n (given ++ drop (length given) items) ≡ given
written_back n given items e = take-append-le n given (drop (length given) items) (omega (arith, e)) ∙ take_all n given (omega (arith, e))

-- this many words are there
pub first_words_count : (n : ℕ) (bytes : List ℕ) → 8 * n ≤ length bytes → length (take n (plain_words bytes)) ≡ n
first_words_count n bytes h = length-take-le n (plain_words bytes) (omega (arith, h, words_exact bytes))

-- the words of the first bytes are the first words
pub first_taken : (n : ℕ) (bytes : List ℕ) → 8 * n ≤ length bytes → plain_words (take (8 * n) bytes) ≡ first_words n bytes
first_taken n bytes h =
    let front = take (8 * n) bytes in
    let long : length front ≡ 8 * n = length-take-le (8 * n) bytes h in
    let many : length (plain_words front) ≡ n = omega (arith, words_exact front, long) in
    let split : plain_words bytes ≡ plain_words front ++ plain_words (drop (8 * n) bytes) =
    ap plain_words (sym (take-append-drop (8 * n) bytes)) ∙ plain_join front (drop (8 * n) bytes) (omega (arith, long)) in
    search (rules, take-append-le, take_all)

-- words in a row were written after the first p
pub row_written : (p k : ℕ) (bytes given words : List ℕ) → AllByRecursion IsWord words → given ≡ plain_text words → k ≡ length given → 8 * p + k ≤ length bytes
    → first_words (p + length words) (put_mid (8 * p) k bytes given) ≡ first_words p bytes ++ words
row_written p k bytes given words are e same h =
    let front = take (8 * p) bytes in
    let rest = drop k (drop (8 * p) bytes) in
    let size : length given ≡ 8 * length words = ap length e ∙ length_plain words in
    let long : length front ≡ 8 * p = length-take-le (8 * p) bytes (omega (arith, h)) in
    let many : length (first_words p bytes) ≡ p = first_words_count p bytes (omega (arith, h)) in
    let after : plain_words (given ++ rest) ≡ words ++ plain_words rest = ap (λ xs. plain_words (xs ++ rest)) e ∙ plain_back words rest are in
    let split : plain_words (front ++ (given ++ rest)) ≡ first_words p bytes ++ (words ++ plain_words rest) =
    plain_join front (given ++ rest) (omega (arith, long)) ∙ ap₂ (λ xs ys. xs ++ ys) (first_taken p bytes (omega (arith, h))) after in
    search (rules, length-append, append_assoc, take-append-le, take_all)

-- word n was written after the first n
pub word_appended : (n w : ℕ) (given items : List ℕ) → 8 * n + 8 ≤ length items → plain_words given ≡ set (plain_words items) n w
    → first_words (n + 1) given ≡ first_words n items ++ w ∷ []
word_appended n w given items h e = ap (take (n + 1)) e ∙ take-set_at (plain_words items) n (n + 1) w refl (omega (arith, words_exact items, h))

-- word p was written in place of one of the first n
pub word_replaced : (n p w : ℕ) (given items : List ℕ) → p < n → plain_words given ≡ set (plain_words items) p w
    → first_words n given ≡ set (first_words n items) p w
word_replaced n p w given items h e = ap (take n) e ∙ take-set-lt n (plain_words items) p w h
