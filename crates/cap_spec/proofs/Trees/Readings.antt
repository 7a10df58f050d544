-- What is read of the words of a message, one word, value or byte at a time.
use Rattle.cap_spec.proofs.ProofNames.{List, None, Some, ap, arith, get_or, length, min, slice_get, suc, ℕ, ◌*◌, ◌+◌}
use Rattle.cap_spec.proofs.ProofNames.{◌-◌, ◌<◌, ◌∙◌, ◌∷◌, ◌≡◌, ◌≤◌, get_or-map-range_with_len}
use Rattle.cap_spec.proofs.ProofNames.{length-map-range_with_len, get_or_from_slice_get, slice_get-get_or}
use Rattle.cap_spec.proofs.ProofNames.{slice_get_past, value_at, values_of, HasWord, segment_of, plain_text, word_bytes}
use Rattle.cap_spec.proofs.ProofNames.{element_bits, list_words, scalar_words, field, rules}
use Rattle.cap_spec.proofs.Trees.ReadingBack.{length-scalar_words}
use Rattle.cap_spec.proofs.Trees.WordsRead.{word_read}

-- a word that a message has, as an element of its segment
pub word_there : (m : List (List ℕ)) (t w x : ℕ) → HasWord m t w x → get_or (segment_of m t) w 0 ≡ x
word_there m t w x h = get_or_from_slice_get (segment_of m t) w x 0 h

-- how many values a list has
pub length-values : (m : List (List ℕ)) (t b c n : ℕ) → length (values_of m t b c n) ≡ n
length-values m t b c n = length-map-range_with_len (value_at (segment_of m t) b (element_bits c)) 0 n

-- value i of a list of values
pub value_there : (m : List (List ℕ)) (t b c n i : ℕ) → i < n
    → slice_get (values_of m t b c n) i ≡ Some (value_at (segment_of m t) b (element_bits c) i)
value_there m t b c n i lt =
    slice_get-get_or (values_of m t b c n) i 0 (omega (arith, length-values m t b c n))
    ∙ ap Some (get_or-map-range_with_len (value_at (segment_of m t) b (element_bits c)) 0 n i i 0 lt (omega arith))

-- and none past them
pub value_past : (m : List (List ℕ)) (t b c n i : ℕ) → n ≤ i → slice_get (values_of m t b c n) i ≡ None
value_past m t b c n i past = slice_get_past (values_of m t b c n) i (omega (arith, length-values m t b c n))

-- how many words the values of a list take
pub length-values_words : (m : List (List ℕ)) (t b c n : ℕ)
    → length (scalar_words c (values_of m t b c n)) ≡ list_words c n
length-values_words m t b c n = search (rules, length-scalar_words, length-values)

-- word i of a list of values: the word that is there, its bits past the last value cut
pub values_word_there : (m : List (List ℕ)) (t b c n i x : ℕ) → i < list_words c n → HasWord m t (b + i) x
    → slice_get (scalar_words c (values_of m t b c n)) i ≡ Some (field x 0 (min 64 (element_bits c * n - i * 64)))
values_word_there m t b c n i x lt h =
    slice_get-get_or (scalar_words c (values_of m t b c n)) i 0 (omega (arith, length-values_words m t b c n))
    ∙ ap Some (word_read (segment_of m t) b c n i lt
    ∙ ap (λ y. field y 0 (min 64 (element_bits c * n - i * 64))) (word_there m t (b + i) x h))

-- and none past them
pub values_word_past : (m : List (List ℕ)) (t b c n i : ℕ) → list_words c n ≤ i
    → slice_get (scalar_words c (values_of m t b c n)) i ≡ None
values_word_past m t b c n i past = search (rules, slice_get_past, length-values_words)

-- whether a list of values has a word i, by bits
pub word_within : (c n i : ℕ) → i * 64 < element_bits c * n → i < list_words c n
word_within c n i h = search rules

pub word_past : (c n i : ℕ) → element_bits c * n ≤ i * 64 → list_words c n ≤ i
word_past c n i h = search rules

-- byte i of words: that of the word where it is
pub byte_there : (words : List ℕ) (i j x : ℕ) → j < 8 → slice_get words i ≡ Some x
    → slice_get (plain_text words) (i * 8 + j) ≡ slice_get (word_bytes x) j
byte_there (w ∷ ws) (suc i) j x lt h =
    let e : suc i * 8 + j ≡ suc (suc (suc (suc (suc (suc (suc (suc (i * 8 + j)))))))) = omega arith in
    ap (slice_get (plain_text (w ∷ ws))) e ∙ byte_there ws i j x lt h
byte_there x0 i j x lt h = search rules

-- and none where there is no word
pub byte_past : (words : List ℕ) (i j : ℕ) → slice_get words i ≡ None → slice_get (plain_text words) (i * 8 + j) ≡ None
byte_past (w ∷ ws) (suc i) j h = search (rules, byte_past ws i j h)
byte_past x0 i j h = search rules
