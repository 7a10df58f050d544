-- The words of a list of values, with and without bits after the last value.
use Rattle.std.proofs.Math.Nat.{div-eq_of_lt, div-lt_iff_lt-mul, mod-eq_of_lt, mod-lt}
use Rattle.std.proofs.lemmas.Nat.{pow_pos}
use Rattle.cap_spec.proofs.Canonical.Placing.{lie_word}
use Rattle.cap_spec.proofs.Lemmas.{length-scalar_words}
use Rattle.cap_spec.proofs.ProofNames.{List, ap, arith, cases_eq, get_or, get_or_from_slice_get, inl, inr, length, length-map-range_with_len}
use Rattle.cap_spec.proofs.ProofNames.{subst, sym, ℕ, ◌%◌, ◌+◌, ◌-◌, ◌/◌, ◌<◌, ◌^◌, ◌∙◌, ◌≡◌, ◌≢◌, ◌≤◌, HasWord, HasWordsAt}
use Rattle.cap_spec.proofs.ProofNames.{IsWord, element_bits, field, list_words, rules, scalar_words, segment_of, value_at, values_of}
use Rattle.cap_spec.proofs.Trees.WordsRead.{values_read}
use Rattle.cap_canon.specs.Values.{used_bits}
use Rattle.cap_canon.proofs.LaidObjects.{range_words, values_lie}
use Rattle.cap_canon.proofs.Rests.{rest_words, values_full}
use Rattle.cap_difference.specs.Reasons.{HasBitsAfter, last_bits}

-- a word without bits from a place on is the field before it
low_field : (x u : ℕ) → x / 2 ^ u ≡ 0 → x ≡ field x 0 u
low_field x u z =
    let some = pow_pos u in
    let small : x < 2 ^ u = let k = (div-lt_iff_lt-mul {k = 2 ^ u} {x = x} {y = 1} some).0 (omega (arith, z)) in omega (arith, k) in
    let whole : x / 2 ^ 0 ≡ x = omega arith in
    sym (ap (λ y. y % 2 ^ u) whole ∙ mod-eq_of_lt small)

-- and a field has no others
field_low : (x y u : ℕ) → x ≡ field y 0 u → x / 2 ^ u ≡ 0
field_low x y u e =
    let less = mod-lt (y / 2 ^ 0) (pow_pos u) in
    let small : x < 2 ^ u = omega (arith, e, less) in div-eq_of_lt small

-- how many bits the values of the last word take that they don't fill
used_rest : (c n before : ℕ) → c < 6 → list_words c n ≡ before + 1 → last_bits c n ≢ 0 → used_bits c n before ≡ last_bits c n
used_rest c n before lt w e = search rules

-- a list without bits after its last value is there as it is
pub values_same : (m : List (List ℕ)) (t b c n words : ℕ) → c < 6 → words ≡ list_words c n → b + words ≤ length (segment_of m t)
    → ((k : ℕ) → k < words → (x : ℕ) × HasWord m t (b + k) x × IsWord x) → ¬ HasBitsAfter m t b c n
    → HasWordsAt (segment_of m t) b (scalar_words c (values_of m t b c n))
values_same m t b c n words lt e inside read none = elim (cases_eq (last_bits c n) 0) [
  | inl rest ↦ values_full m t b c n words lt e inside read rest
  | inr over ↦
      let some = rest_words c n lt over in
      let before : ℕ = list_words c n - 1 in
      let many : list_words c n ≡ before + 1 = omega (arith, some) in
      let (x, has, is) = read before (omega (arith, e, some)) in
      let low : x / 2 ^ last_bits c n ≡ 0 = elim (cases_eq (x / 2 ^ last_bits c n) 0) [
        | inl z ↦ z
        | inr set ↦ absurd (none record { last = x; some = over; has = has; set = set })
      ] in
      let front = range_words m t b before (λ k less. read k (omega (arith, less, e))) in
      values_lie m t b c n before x lt many (omega (arith, inside, e, some)) front has
      (low_field x (last_bits c n) low ∙ ap (field x 0) (sym (used_rest c n before lt many over)))
]

-- a list that is there as it is has no such bits
pub bits_differ : (m : List (List ℕ)) (t b c n : ℕ) → c < 6 → HasWordsAt (segment_of m t) b (scalar_words c (values_of m t b c n)) → ¬ HasBitsAfter m t b c n
bits_differ m t b c n lt lie h =
    let some = rest_words c n lt h.some in
    let before : ℕ = list_words c n - 1 in
    let many : list_words c n ≡ before + 1 = omega (arith, some) in
    let vs = values_of m t b c n in
    let count : length vs ≡ n = length-map-range_with_len (value_at (segment_of m t) b (element_bits c)) 0 n in
    let own : length (scalar_words c vs) ≡ list_words c n = length-scalar_words c vs ∙ ap (list_words c) count in
    let there = lie_word (segment_of m t) b (scalar_words c vs) lie before (omega (arith, own, some)) in
    let read = values_read (segment_of m t) b c n before lt (omega (arith, some)) in
    let y = get_or (segment_of m t) (b + before) 0 in
    let last : y ≡ h.last = get_or_from_slice_get (segment_of m t) (b + before) h.last 0 h.has in
    let same : h.last ≡ field y 0 (used_bits c n before) = sym last ∙ (there ∙ read) in
    let used = used_rest c n before lt many h.some in
    h.set (field_low h.last y (last_bits c n) (subst (λ i. h.last ≡ field y 0 i) used same))
