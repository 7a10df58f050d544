-- Zeros in place of words in a row.
use Rattle.std.proofs.lemmas.List.{places}
use Rattle.cap_spec.proofs.ProofNames.{List, ap, ap₂, arith, drop, drop-drop, get_or, length, length-replicate}
use Rattle.cap_spec.proofs.ProofNames.{length-take-le, refl, replicate, suc, sym, take, zero, ℕ, ◌*◌, ◌++◌, ◌+◌, ◌<◌}
use Rattle.cap_spec.proofs.ProofNames.{◌∙◌, ◌∷◌, ◌≡◌, ◌≤◌, ◌⊎◌, plain_words, put_mid, rules, same_lists}
use Rattle.cap_words.proofs.Filling.{plain_join}
use Rattle.cap_frame.proofs.Parts.{drop_words, take_words}
use Rattle.cap_canon.specs.Zeros.{zeros_put}

-- the words of zero bytes
zeros_are_words : (n : ℕ) → plain_words (replicate (8 * n) 0) ≡ replicate n 0
zeros_are_words zero = refl
zeros_are_words (suc n) =
    let eight : 8 * suc n ≡ suc (suc (suc (suc (suc (suc (suc (suc (8 * n)))))))) = omega arith in
    ap (λ k. plain_words (replicate k 0)) eight ∙ ap (λ l. 0 ∷ l) (zeros_are_words n)

-- zero bytes were written over those of words p to p + n
pub zeros_written : (p n k : ℕ) (bytes given : List ℕ) → given ≡ replicate k 0 → k ≡ 8 * n → 8 * (p + n) ≤ length bytes
    → plain_words (put_mid (8 * p) k bytes given) ≡ zeros_put p n (plain_words bytes)
zeros_written p n k bytes given zeros e h =
    let front = take (8 * p) bytes in
    let rest = drop k (drop (8 * p) bytes) in
    let long : length front ≡ 8 * p = length-take-le (8 * p) bytes (omega (arith, h)) in
    let given_is : given ≡ replicate (8 * n) 0 = zeros ∙ ap (λ i. replicate i 0) e in
    let size : length given ≡ 8 * n = search (rules, length-replicate) in
    let same : 8 * p + k ≡ 8 * (p + n) = omega (arith, e) in
    let rest_is : rest ≡ drop (8 * (p + n)) bytes = drop-drop k (8 * p) bytes ∙ ap (λ i. drop i bytes) same in
    plain_join front (given ++ rest) (omega (arith, long))
    ∙ ap₂ (λ xs ys. xs ++ ys) (sym (take_words p bytes))
    (plain_join given rest (omega (arith, size))
    ∙ ap₂ (λ xs ys. xs ++ ys) (ap plain_words given_is ∙ zeros_are_words n) (ap plain_words rest_is ∙ sym (drop_words (p + n) bytes)))

-- there are as many words as before
pub length-zeros_put : (p n : ℕ) (words : List ℕ) → p + n ≤ length words → length (zeros_put p n words) ≡ length words
length-zeros_put p n words h = search (rules, places)

-- and of the first c words too, if the zeros are among these
pub take-zeros_put : (c p n : ℕ) (words : List ℕ) → p + n ≤ c → c ≤ length words → take c (zeros_put p n words) ≡ zeros_put p n (take c words)
take-zeros_put c p n words h le = same_lists _ _ (search (rules, places)) (λ k d lt. grind (arith, places))

pub zeros_there : (p n i : ℕ) (words : List ℕ) → p ≤ i → i < p + n → p + n ≤ length words → get_or (zeros_put p n words) i 0 ≡ 0
zeros_there p n i words le lt h = grind (arith, places)

pub others_there : (p n i : ℕ) (words : List ℕ) → (i < p) ⊎ (p + n ≤ i) → p + n ≤ length words → get_or (zeros_put p n words) i 0 ≡ get_or words i 0
others_there p n i words out h = grind (arith, places)
