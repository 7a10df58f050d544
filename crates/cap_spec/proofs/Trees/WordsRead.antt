-- The words of a list of values that were read from words: those words, the bits past the last value zero.
use Rattle.std.proofs.lemmas.List.{drop-map, take-map}
use Rattle.std.proofs.lemmas.Nat.{mod-pow-add}
use Rattle.cap_spec.proofs.ProofNames.{List, ap, ap₂, arith, drop, get_or, length, map, min, mul_comm, shr-shr, subst}
use Rattle.cap_spec.proofs.ProofNames.{suc, sym, take, zero, ℕ, ◌%◌, ◌*◌, ◌+◌, ◌-◌, ◌/◌, ◌<◌, ◌^◌, ◌∙◌, ◌∷◌, ◌≡◌, ◌≤◌}
use Rattle.cap_spec.proofs.ProofNames.{length-map-range_with_len, range_with_len, value_at, element_bits, list_words}
use Rattle.cap_spec.proofs.ProofNames.{packed_word, scalar_words, field, common_steps, rules}
use Rattle.cap_spec.proofs.Trees.ReadingBack.{word_of_values}

-- a field and the one above it
two_fields : (x p bits more : ℕ) → field x p bits + 2 ^ bits * field x (p + bits) more ≡ field x p (more + bits)
two_fields x p bits x3 = grind (arith, common_steps, mod-pow-add, shr-shr, mul_comm)

-- fields in a row, packed, are one field
pub fields_packed : (x bits : ℕ) (f : ℕ → ℕ) (a p n : ℕ) → ((j : ℕ) → j < n → f (a + j) ≡ field x (p + j * bits) bits)
    → packed_word bits (map f (range_with_len a n)) ≡ field x p (n * bits)
fields_packed x bits f a p zero h = search rules
fields_packed x bits f a p (suc n) h =
    let e0 : a + 0 ≡ a = omega arith in
    let e1 : p + 0 * bits ≡ p = omega arith in
    let first : f a ≡ field x p bits = ap f (sym e0) ∙ (h 0 (omega arith) ∙ ap (λ y. field x y bits) e1) in
    let rest : packed_word bits (map f (range_with_len (a + 1) n)) ≡ field x (p + bits) (n * bits) =
    fields_packed x bits f (a + 1) (p + bits) n (λ j l. shifted j l) in
    ap₂ (λ u v. u + 2 ^ bits * v) first rest ∙ (two_fields x p bits (n * bits) ∙ ap (field x p) (same n))
  where
    shifted : (j : ℕ) → j < n → f (a + 1 + j) ≡ field x (p + bits + j * bits) bits
    shifted j l =
        let e : a + suc j ≡ a + 1 + j = omega arith in
        let g : p + suc j * bits ≡ p + bits + j * bits = omega arith in
        ap f (sym e) ∙ (h (suc j) (omega (arith, l)) ∙ ap (λ y. field x y bits) g)

    same : (n : ℕ) → n * bits + bits ≡ suc n * bits
    same n = omega arith

pub drop-range : (a n k : ℕ) → drop k (range_with_len a n) ≡ range_with_len (a + k) (n - k)
drop-range a n zero = let e : a ≡ a + 0 = omega arith in let f : n ≡ n - 0 = omega arith in ap₂ range_with_len e f
drop-range a zero (suc k) = let e : 0 ≡ 0 - suc k = omega arith in ap (range_with_len (a + suc k)) e
drop-range a (suc n) (suc k) = search (rules, drop-range (a + 1) n k)

pub take-range : (a n k : ℕ) → take k (range_with_len a n) ≡ range_with_len a (min k n)
take-range a n zero = let e : 0 ≡ min 0 n = omega arith in ap (range_with_len a) e
take-range a zero (suc k) = let e : 0 ≡ min (suc k) 0 = omega arith in ap (range_with_len a) e
take-range a (suc n) (suc k) = let e : suc (min k n) ≡ min (suc k) (suc n) = omega arith in
    ap (λ xs. a ∷ xs) (take-range (a + 1) n k) ∙ ap (range_with_len a) e

-- word k of values of one width, where this many of them fill a word
width_read : (words : List ℕ) (b bits per n k : ℕ)
    → ((j : ℕ) → j < per → value_at words b bits (k * per + j) ≡ field (get_or words (b + k) 0) (0 + j * bits) bits)
    → packed_word bits (take per (drop (k * per) (map (value_at words b bits) (range_with_len 0 n))))
    ≡ field (get_or words (b + k) 0) 0 (min per (n - k * per) * bits)
width_read words b bits per n k h =
    let a : drop (k * per) (map (value_at words b bits) (range_with_len 0 n))
    ≡ map (value_at words b bits) (range_with_len (0 + k * per) (n - k * per)) =
    drop-map (value_at words b bits) (k * per) (range_with_len 0 n)
    ∙ ap (map (value_at words b bits)) (drop-range 0 n (k * per)) in
    let c : take per (map (value_at words b bits) (range_with_len (0 + k * per) (n - k * per)))
    ≡ map (value_at words b bits) (range_with_len (0 + k * per) (min per (n - k * per))) =
    take-map (value_at words b bits) per (range_with_len (0 + k * per) (n - k * per))
    ∙ ap (map (value_at words b bits)) (take-range (0 + k * per) (n - k * per) per) in
    ap (packed_word bits) (ap (take per) a ∙ c)
    ∙ fields_packed (get_or words (b + k) 0) bits (value_at words b bits) (0 + k * per) 0 (min per (n - k * per))
    (λ j lt. each j lt)
  where
    each : (j : ℕ) → j < min per (n - k * per)
        → value_at words b bits (0 + k * per + j) ≡ field (get_or words (b + k) 0) (0 + j * bits) bits
    each j lt = let z : 0 + k * per + j ≡ k * per + j = omega arith in
        ap (value_at words b bits) z ∙ h j (omega (arith, lt))

-- from code 5 on a value is a word
pub whole_words : (c : ℕ) → 5 ≤ c → element_bits c ≡ 64
whole_words c h = grind (arith, common_steps)

-- word k of a list of values: the word that it was read from, without the bits past the last value
pub word_read : (words : List ℕ) (b c n k : ℕ) → k < list_words c n
    → get_or (scalar_words c (map (value_at words b (element_bits c)) (range_with_len 0 n))) k 0
    ≡ field (get_or words (b + k) 0) 0 (min 64 (element_bits c * n - k * 64))
word_read words b c n k h =
    let vs : List ℕ = map (value_at words b (element_bits c)) (range_with_len 0 n) in
    let l : length vs ≡ n = length-map-range_with_len (value_at words b (element_bits c)) 0 n in
    let h' : k < list_words c (length vs) = rw l h in
    word_of_values (element_bits c) (list_words c (length vs)) vs k h' ∙ go c h
  where
    at : (bits per j : ℕ) → (k * per + j) * bits / 64 ≡ k → (k * per + j) * bits % 64 ≡ j * bits
        → value_at words b bits (k * per + j) ≡ field (get_or words (b + k) 0) (0 + j * bits) bits
    at bits per j e f = let z : j * bits ≡ 0 + j * bits = omega arith in
        ap₂ (λ x y. field (get_or words (b + x) 0) y bits) e (f ∙ z)

    same : (bits per : ℕ) → min per (n - k * per) * bits ≡ min 64 (bits * n - k * 64)
        → field (get_or words (b + k) 0) 0 (min per (n - k * per) * bits)
        ≡ field (get_or words (b + k) 0) 0 (min 64 (bits * n - k * 64))
    same bits per e = ap (field (get_or words (b + k) 0) 0) e

    go : (c : ℕ) → k < list_words c n → packed_word (element_bits c)
        (take (64 / element_bits c) (drop (k * (64 / element_bits c))
        (map (value_at words b (element_bits c)) (range_with_len 0 n))))
        ≡ field (get_or words (b + k) 0) 0 (min 64 (element_bits c * n - k * 64))
    go zero h = absurd (omega (arith, h))
    go (suc zero) h = width_read words b 1 64 n k (λ j l. at 1 64 j (omega (arith, l)) (omega (arith, l)))
        ∙ same 1 64 (omega arith)
    go (suc (suc zero)) h = width_read words b 8 8 n k (λ j l. at 8 8 j (omega (arith, l)) (omega (arith, l)))
        ∙ same 8 8 (omega arith)
    go (suc (suc (suc zero))) h = width_read words b 16 4 n k (λ j l. at 16 4 j (omega (arith, l)) (omega (arith, l)))
        ∙ same 16 4 (omega arith)
    go (suc (suc (suc (suc zero)))) h = width_read words b 32 2 n k
        (λ j l. at 32 2 j (omega (arith, l)) (omega (arith, l))) ∙ same 32 2 (omega arith)
    go (suc (suc (suc (suc (suc c))))) h =
        let e : element_bits (suc (suc (suc (suc (suc c))))) ≡ 64 =
        whole_words (suc (suc (suc (suc (suc c))))) (omega arith) in
        subst (λ (x : ℕ). packed_word x (take (64 / x)
        (drop (k * (64 / x)) (map (value_at words b x) (range_with_len 0 n))))
        ≡ field (get_or words (b + k) 0) 0 (min 64 (x * n - k * 64))) (sym e)
        (width_read words b 64 1 n k (λ j l. at 64 1 j (omega (arith, l)) (omega (arith, l))) ∙ same 64 1 (omega arith))

-- the same by how many values the word has
pub values_read : (words : List ℕ) (b c n k : ℕ) → c < 6 → k < list_words c n
    → get_or (scalar_words c (map (value_at words b (element_bits c)) (range_with_len 0 n))) k 0
    ≡ field (get_or words (b + k) 0) 0 (min (64 / element_bits c) (n - k * (64 / element_bits c)) * element_bits c)
values_read words b c n k lt h = search (rules, word_read)
