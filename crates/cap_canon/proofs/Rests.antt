-- How many bits of its last word a list of values takes, and lists that take all of them.
use Rattle.cap_spec.proofs.ProofNames.{List, ap, arith, length, suc, sym, zero, ℕ, ◌%◌, ◌*◌, ◌+◌, ◌<◌, ◌∙◌, ◌≡◌, ◌≢◌}
use Rattle.cap_spec.proofs.ProofNames.{◌≤◌, nil_from_length, length-map-range_with_len, values_of, HasWord, segment_of}
use Rattle.cap_spec.proofs.ProofNames.{HasWordsAt, element_bits, list_words, scalar_words, IsWord, field, rules}
use Rattle.cap_spec.proofs.Trees.ReadingBack.{length-scalar_words}
use Rattle.cap_canon.specs.Values.{used_bits}
use Rattle.cap_canon.proofs.Ranges.{whole_field}
use Rattle.cap_canon.proofs.LaidObjects.{range_words, values_lie}

-- Where no bits are over, the values take all of the last word,
pub rest_all : (c n before : ℕ) → c < 6 → list_words c n ≡ before + 1 → (element_bits c * n) % 64 ≡ 0 → used_bits c n before ≡ 64
rest_all h n before lt w e = search rules

-- else the list has words.
pub rest_words : (c n : ℕ) → c < 6 → (element_bits c * n) % 64 ≢ 0 → 0 < list_words c n
rest_words h n lt e = search rules

-- A list is there where no bits are over.
pub values_full : (m : List (List ℕ)) (t b c n words : ℕ) → c < 6 → words ≡ list_words c n → b + words ≤ length (segment_of m t)
    → ((k : ℕ) → k < words → (x : ℕ) × HasWord m t (b + k) x × IsWord x) → (element_bits c * n) % 64 ≡ 0
    → HasWordsAt (segment_of m t) b (scalar_words c (values_of m t b c n))
values_full m t b c n zero lt e inside h rest =
    search (rules, length-map-range_with_len, length-scalar_words, nil_from_length)
values_full m t b c n (suc before) lt e inside h rest =
    let some : list_words c n ≡ before + 1 = omega (arith, e) in
    let last = h before (omega arith) in
    values_lie m t b c n before last.0 lt some (omega (arith, inside)) (range_words m t b before (λ k less. h k (omega (arith, less)))) last.1
    (sym (whole_field last.0 last.2) ∙ ap (λ i. field last.0 0 i) (sym (rest_all c n before lt some rest)))
