-- What a view shows, by its kind.
use Rattle.cap_spec.specs.Showing.{byte_of, count_of}
use Rattle.cap_spec.specs.declared.Kind.TheVariants.{Pointers, Scalars, Struct, Structs}
use Rattle.cap_spec.proofs.Lemmas.{short_segment, range_length, word_within}
use Rattle.cap_spec.proofs.ProofNames.{List, None, Option, Some, ap, arith, get_or, inl, inr, length, min, refl}
use Rattle.cap_spec.proofs.ProofNames.{slice_get, sym, ℕ, ◌%◌, ◌*◌, ◌+◌, ◌-◌, ◌/◌, ◌<◌, ◌^◌, ◌∙◌, ◌≡◌, ◌≤◌, ◌⊎◌}
use Rattle.cap_spec.proofs.ProofNames.{slice_get-get_or, own_at, values_of, words_from, HasWord, IsMessage}
use Rattle.cap_spec.proofs.ProofNames.{segment_of, word_bytes, element_bits, scalar_words, kind_of, rules}
use Rattle.cap_spec.proofs.ProofNames.{words_of_own, field}
use Rattle.cap_spec.proofs.Trees.Readings.{byte_past, byte_there, length-values, length-values_words}
use Rattle.cap_spec.proofs.Trees.Readings.{values_word_there}
use Rattle.cap_vet.specs.VetNames.{Kind, own_words}

-- the kind of what is shown
pub kind_shown : (m : List (List ℕ)) {k : Kind} (t b : ℕ) {n : ℕ} → own_words k ≤ n → b + n ≤ length (segment_of m t) → k ≡ kind_of (own_at m k t b)
kind_shown m {k = k} t b own inside = search (rules, range_length, length-values)

-- how many elements a list shows
pub count_shown : (m : List (List ℕ)) {k : Kind} (t b : ℕ) {n : ℕ} → ((c : ℕ) × (k ≡ Scalars c n))
    ⊎ ((k ≡ Pointers n) ⊎ ((d p : ℕ) × (k ≡ Structs n d p))) → Some n ≡ count_of (own_at m k t b)
count_shown m t b {n} (inl (c, e)) = rw e (ap Some (sym (length-values m t b c n)))
count_shown m t b (inr (inl e)) = rw e refl
count_shown m t b (inr (inr (d, p, e))) = rw e refl

-- the words that a list of values shows lie inside its segment
pub few_shown : (m : List (List ℕ)) {k : Kind} {t : ℕ} (b c x : ℕ) {n : ℕ} → IsMessage m → t < length m → k ≡ Scalars c x
    → own_words k ≤ n → b + n ≤ length (segment_of m t)
    → length (words_of_own (own_at m k t b)) < 2 ^ 32
few_shown m {t} b c x {n} message exists e own inside = search (rules, short_segment, length-values_words)

-- byte i of a struct
pub shown_byte : (m : List (List ℕ)) {k : Kind} (t b d p i : ℕ) {w : ℕ} (r : Option ℕ) → k ≡ Struct d p → r ≡ slice_get (words_from m t b d) (i / 8) → r ≡ Some w
    → Some (get_or (word_bytes w) (i % 8) 0) ≡ byte_of (own_at m k t b) i
shown_byte m t b d p i {w} r e f g =
    let h : i / 8 * 8 + i % 8 ≡ i = omega arith in
    search (rules, slice_get-get_or, byte_there)

pub shown_no_byte : (m : List (List ℕ)) {k : Kind} (t b d p i : ℕ) (r : Option ℕ) → k ≡ Struct d p
    → r ≡ slice_get (words_from m t b d) (i / 8) → r ≡ None → None ≡ byte_of (own_at m k t b) i
shown_no_byte m t b d p i r e f g =
    let h : i / 8 * 8 + i % 8 ≡ i = omega arith in
    rw e (sym (byte_past (words_from m t b d) (i / 8) (i % 8) (sym f ∙ g)) ∙ ap (λ (y : ℕ). byte_of (own_at m (Struct d p) t b) y) h)

pub shown_word : (m : List (List ℕ)) (t b c : ℕ) {n i size count at : ℕ} (x : ℕ) {used y : ℕ} → size ≡ element_bits c → count ≡ n → at ≡ i
    → at * 64 < size * count → used ≡ min (size * count - at * 64) 64
    → HasWord m t (b + i) x → y ≡ field x 0 used → Some y ≡ slice_get (scalar_words c (values_of m t b c n)) i
shown_word m t b c {n} {i} x {used} e f g lt u has h =
    let v : used ≡ min 64 (element_bits c * n - i * 64) = rw (← e, ← f, ← g) (omega (arith, u)) in
    search (rules, values_word_there, word_within, has)
