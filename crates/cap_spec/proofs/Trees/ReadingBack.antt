-- Values that were packed into words are read back from them.
use Rattle.std.proofs.lemmas.Nat.{shr_high}
use Rattle.cap_spec.specs.Scalars.{value_words}
use Rattle.cap_spec.proofs.Bytes.Lists.{all_drop, all_take}
use Rattle.cap_spec.proofs.ProofNames.{List, ap, ap₂, arith, drop, get_or, get_or-drop, get_or-take, length}
use Rattle.cap_spec.proofs.ProofNames.{length-drop, length-take, map, mul_comm, shr-shr, suc, sym, take, zero, ℕ, ◌%◌}
use Rattle.cap_spec.proofs.ProofNames.{◌*◌, ◌+◌, ◌/◌, ◌<◌, ◌^◌, ◌∙◌, ◌∷◌, ◌≡◌, get_or_default, same_lists}
use Rattle.cap_spec.proofs.ProofNames.{get_or-map-range_with_len, length-map-range_with_len, AllByRecursion}
use Rattle.cap_spec.proofs.ProofNames.{range_with_len, value_at, element_bits, list_words, packed_word, scalar_words}
use Rattle.cap_spec.proofs.ProofNames.{field, common_steps, rules}

-- a word of values, the lowest last
turned : (v m r : ℕ) → v + m * r ≡ r * m + v
turned v m r = omega (arith, mul_comm m r)

-- the lowest value of a word, and what is above it
low_value : (bits v r : ℕ) → v < 2 ^ bits → field (v + 2 ^ bits * r) 0 bits ≡ v
low_value bits v r h = grind (arith, common_steps)

high_values : (bits v r low : ℕ) → v < 2 ^ bits → field (v + 2 ^ bits * r) (bits + low) bits ≡ field r low bits
high_values bits v r low h =
    ap (λ x. x % 2 ^ bits) (sym (shr-shr (v + 2 ^ bits * r) bits low)
    ∙ ap (λ x. x / 2 ^ low) (ap (λ x. x / 2 ^ bits) (turned v (2 ^ bits) r) ∙ shr_high r bits v h))

-- value j of a word of values
pub packed_field : (bits : ℕ) (vs : List ℕ) (j : ℕ) → AllByRecursion (λ v. v < 2 ^ bits) vs → j < length vs
    → field (packed_word bits vs) (j * bits) bits ≡ get_or vs j 0
packed_field bits (v ∷ vs) (suc j) a h =
    let e : suc j * bits ≡ bits + j * bits = omega arith in
    ap (λ x. field (v + 2 ^ bits * packed_word bits vs) x bits) e
    ∙ (high_values bits v (packed_word bits vs) (j * bits) a.0 ∙ packed_field bits vs j a.1 (omega (arith, h)))
packed_field bits x1 j a h = search (rules, low_value)

-- value i of a list, by its word and its place there
pub listed_field : (bits per : ℕ) (vs : List ℕ) (i k j : ℕ) → AllByRecursion (λ v. v < 2 ^ bits) vs → j < per
    → k * per + j ≡ i → i < length vs
    → field (packed_word bits (take per (drop (k * per) vs))) (j * bits) bits ≡ get_or vs i 0
listed_field bits per vs i k j a lt e h =
    search (rules, length-take, length-drop, packed_field, all_take, all_drop, get_or-take, get_or-drop)

-- where in a list of this many words of this many values each the value i of this many bits is: the place in its word
pub record Placed (bits per count i : ℕ) : Type 0 where
  pub place : ℕ
  pub below : place < per
  pub index : (i * bits) / 64 * per + place ≡ i
  pub low : (i * bits) % 64 ≡ place * bits
  pub inside : (i * bits) / 64 < count

-- values that are in words are those values
pub values_read : (words : List ℕ) (b bits per count : ℕ) (vs : List ℕ) → AllByRecursion (λ v. v < 2 ^ bits) vs
    → ((k : ℕ) → k < count → get_or words (b + k) 0 ≡ packed_word bits (take per (drop (k * per) vs)))
    → ((i : ℕ) → i < length vs → Placed bits per count i)
    → map (value_at words b bits) (range_with_len 0 (length vs)) ≡ vs
values_read words b bits per count vs a lie placed =
    same_lists (map (value_at words b bits) (range_with_len 0 (length vs))) vs
    (length-map-range_with_len (value_at words b bits) 0 (length vs))
    (λ i d lt. each i d (rw (length-map-range_with_len (value_at words b bits) 0 (length vs)) at lt))
  where
    at_place : (i : ℕ) → i < length vs → value_at words b bits i ≡ get_or vs i 0
    at_place i h =
        let p : Placed bits per count i = placed i h in
        ap₂ (λ x y. field x y bits) (lie ((i * bits) / 64) p.inside) p.low
        ∙ listed_field bits per vs i ((i * bits) / 64) p.place a p.below p.index h

    each : (i d : ℕ) → i < length vs → get_or (map (value_at words b bits) (range_with_len 0 (length vs)))
        i d ≡ get_or vs i d
    each i d h = get_or-map-range_with_len (value_at words b bits) 0 (length vs) i i d h (omega arith)
        ∙ (at_place i h ∙ get_or_default vs i 0 d h)

-- values without bits are zeros
no_bits : (vs : List ℕ) (i : ℕ) → AllByRecursion (λ v. v < 2 ^ 0) vs → get_or vs i 0 ≡ 0
no_bits (v ∷ vs) (suc i) a = no_bits vs i a.1
no_bits x0 i a = search rules

voids_read : (words : List ℕ) (b : ℕ) (vs : List ℕ) → AllByRecursion (λ v. v < 2 ^ 0) vs
    → map (value_at words b 0) (range_with_len 0 (length vs)) ≡ vs
voids_read words b vs a =
    grind (arith, common_steps, same_lists, length-map-range_with_len, get_or-map-range_with_len, no_bits, get_or_default)

-- the places of values of each width
placed-1 : (n i : ℕ) → i < n → Placed 1 64 ((1 * n + 63) / 64) i
placed-1 n i h = record {
  place = i % 64;
  below = omega arith;
  index = omega arith;
  low = omega arith;
  inside = omega arith;
}

placed-8 : (n i : ℕ) → i < n → Placed 8 8 ((8 * n + 63) / 64) i
placed-8 n i h = record {
  place = i % 8;
  below = omega arith;
  index = omega arith;
  low = omega arith;
  inside = omega arith;
}

placed-16 : (n i : ℕ) → i < n → Placed 16 4 ((16 * n + 63) / 64) i
placed-16 n i h = record {
  place = i % 4;
  below = omega arith;
  index = omega arith;
  low = omega arith;
  inside = omega arith;
}

placed-32 : (n i : ℕ) → i < n → Placed 32 2 ((32 * n + 63) / 64) i
placed-32 n i h = record {
  place = i % 2;
  below = omega arith;
  index = omega arith;
  low = omega arith;
  inside = omega arith;
}

placed-64 : (n i : ℕ) → i < n → Placed 64 1 ((64 * n + 63) / 64) i
placed-64 n i h = search rules

-- as many words as the list takes
pub length-scalar_words : (c : ℕ) (vs : List ℕ) → length (scalar_words c vs) ≡ list_words c (length vs)
length-scalar_words c vs = search (rules, length-map-range_with_len)

-- word k of a list of values
pub word_of_values : (bits count : ℕ) (vs : List ℕ) (k : ℕ) → k < count
    → get_or (value_words bits count vs) k 0 ≡ packed_word bits (take (64 / bits) (drop (k * (64 / bits)) vs))
word_of_values bits count vs k h = search (rules, get_or-map-range_with_len)

-- the words of a list are here
abbrev pub WordsAt : List ℕ → ℕ → List ℕ → Type 0
WordsAt words b xs = (k : ℕ) → k < length xs → get_or words (b + k) 0 ≡ get_or xs k 0

-- a list of values, each of which takes bits, is read back from its words
bits_read : (words : List ℕ) (b bits count : ℕ) (vs : List ℕ) → AllByRecursion (λ v. v < 2 ^ bits) vs
    → WordsAt words b (value_words bits count vs)
    → ((i : ℕ) → i < length vs → Placed bits (64 / bits) count i)
    → map (value_at words b bits) (range_with_len 0 (length vs)) ≡ vs
bits_read words b bits count vs a lie placed =
    values_read words b bits (64 / bits) count vs a
    (λ k h. lie k (rw (length-map-range_with_len
    (λ x. packed_word bits (take (64 / bits) (drop (x * (64 / bits)) vs))) 0 count) h)
    ∙ word_of_values bits count vs k h) placed

-- a list of values is read back from its words
pub scalars_read : (words : List ℕ) (b c : ℕ) (vs : List ℕ) → c < 6 → AllByRecursion (λ v. v < 2 ^ element_bits c) vs
    → WordsAt words b (scalar_words c vs)
    → map (value_at words b (element_bits c)) (range_with_len 0 (length vs)) ≡ vs
scalars_read words b zero vs lt a lie = voids_read words b vs a
scalars_read words b (suc zero) vs lt a lie = search (rules, bits_read, placed-1)
scalars_read words b (suc (suc zero)) vs lt a lie = search (rules, bits_read, placed-8)
scalars_read words b (suc (suc (suc zero))) vs lt a lie = search (rules, bits_read, placed-16)
scalars_read words b (suc (suc (suc (suc zero)))) vs lt a lie = search (rules, bits_read, placed-32)
scalars_read words b (suc (suc (suc (suc (suc zero))))) vs lt a lie = search (rules, bits_read, placed-64)
scalars_read words b (suc (suc (suc (suc (suc (suc c)))))) vs lt a lie = absurd (omega (arith, lt))
