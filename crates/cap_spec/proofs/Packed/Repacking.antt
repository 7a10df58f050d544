-- The packed text that is written unpacks to the words that it is written for.
use Rattle.cap_spec.proofs.Bytes.Lists.{all_drop, all_take}
use Rattle.cap_spec.proofs.Bytes.WordBytes.{bytes_fit, word_back}
use Rattle.cap_spec.proofs.Packed.Groups.{unpacks_whole, unpacks_words}
use Rattle.cap_spec.proofs.Packed.OneUnpacking.{unpacks_with}
use Rattle.cap_spec.proofs.Packed.Packing.{front-le, nonzero_word, zero_run-append, zero_run-ends}
use Rattle.cap_spec.proofs.Packed.Unpacking.{spread_clear}
use Rattle.cap_spec.proofs.ProofNames.{List, [], ap, arith, drop, false, filter, if◌then◌else◌, inl, inr, length}
use Rattle.cap_spec.proofs.ProofNames.{length-drop, length-take-le, min, nat_le, ne_eqb, not, refl, replicate, subst}
use Rattle.cap_spec.proofs.ProofNames.{suc, sym, take, take-append-drop, zero, ℕ, ◌%◌, ◌*◌, ◌++◌, ◌+◌, ◌-◌, ◌/◌, ◌<◌}
use Rattle.cap_spec.proofs.ProofNames.{◌==◌, ◌^◌, ◌∙◌, ◌∷◌, ◌≡◌, ◌≢◌, ◌≤◌, pow-succ', cases_eq, AllByRecursion}
use Rattle.cap_spec.proofs.ProofNames.{little_number, little_from-cons, full_run, group_size, group_text, pack_in}
use Rattle.cap_spec.proofs.ProofNames.{pack_text, tag_of, zero_bytes, zero_run, zeros_in, plain_text, word_bytes}
use Rattle.cap_spec.proofs.ProofNames.{IsGroup, Unpacks, marked, marks, packed_is_cut, plain, spread, unpacked, zeros}
use Rattle.cap_spec.proofs.ProofNames.{IsWord, rules}

-- the bytes of a word that aren't zero
abbrev pub present_of : List ℕ → List ℕ
present_of bytes = filter (λ b. not (b == 0)) bytes

-- a zero byte has a clear bit
tag_zero : (b : ℕ) (bytes : List ℕ) → b ≡ 0 → tag_of (b ∷ bytes) ≡ 2 * tag_of bytes
tag_zero b bytes e = ap (λ k. tag_of (k ∷ bytes)) e ∙ (omega arith)

-- any other a set one
tag_more : (b : ℕ) (bytes : List ℕ) → b ≢ 0 → tag_of (b ∷ bytes) ≡ 1 + 2 * tag_of bytes
tag_more b bytes n = ap (λ t. (if t then 0 else 1) + 2 * tag_of bytes) (ne_eqb b 0 n)

-- any other doesn't
count_more : (b : ℕ) (bytes : List ℕ) → b ≢ 0 → zeros_in (b ∷ bytes) ≡ zeros_in bytes
count_more b bytes n = ap (λ t. (if t then 1 else 0) + zeros_in bytes) (ne_eqb b 0 n) ∙ (omega arith)

-- the tag marks as many bytes as aren't zero
marks_tag : (bytes : List ℕ) → marks (length bytes) (tag_of bytes) ≡ length (present_of bytes)
marks_tag [] = refl
marks_tag (b ∷ bytes) = search (rules, tag_more, marks_tag bytes)

-- no bytes make no number
pub spread_empty : (n tag : ℕ) → spread n tag [] ≡ 0
spread_empty n tag = search rules

-- a clear bit takes no byte, where there may be none
spread_even : (n tag : ℕ) (present : List ℕ) → tag % 2 ≡ 0
    → spread (suc n) tag present ≡ 256 * spread n (tag / 2) present
spread_even n tag [] e = omega (arith, spread_empty)
spread_even n tag (b ∷ present) e = spread_clear n tag b present e

-- the bytes that aren't zero, by the tag that marks them, make the number of all
spread_tag : (bytes : List ℕ) → spread (length bytes) (tag_of bytes) (present_of bytes)
    ≡ little_number (length bytes) bytes
spread_tag [] = refl
spread_tag (b ∷ bytes) = search (rules, tag_zero, little_from-cons, spread_even, tag_more, spread_tag bytes)

-- a tag of this many bits
pub tag_below : (bytes : List ℕ) → tag_of bytes < 2 ^ length bytes
tag_below [] = omega arith
tag_below (b ∷ bytes) = search (rules, tag_below bytes)

-- with a zero byte not all are set
tag_not_full : (bytes : List ℕ) → 0 < zeros_in bytes → tag_of bytes + 1 < 2 ^ length bytes
tag_not_full [] h = absurd (omega arith)
tag_not_full (b ∷ bytes) h =
    search (rules, pow-succ', tag_zero, tag_more, count_more, tag_below bytes, tag_not_full bytes)

-- what holds of all bytes holds of those that aren't zero
present_fit : (P : ℕ → Type 0) (bytes : List ℕ) → AllByRecursion P bytes → AllByRecursion P (present_of bytes)
present_fit P [] all = tt
present_fit P (b ∷ bytes) all = search (rules, present_fit P bytes all.1)

-- a word with a zero byte that isn't zero, by the bytes that aren't
pub marked_group : (x : ℕ) → IsWord x → x ≢ 0 → 0 < zero_bytes x
    → IsGroup (tag_of (word_bytes x) ∷ present_of (word_bytes x)) (x ∷ [])
marked_group x h n z =
    let tag = tag_of (word_bytes x) in
    let present = present_of (word_bytes x) in
    let m : marks 8 tag ≡ length present = marks_tag (word_bytes x) in
    let s : spread 8 tag present ≡ x = spread_tag (word_bytes x) ∙ word_back x [] h in
    let full : tag + 1 < 2 ^ 8 = tag_not_full (word_bytes x) z in
    let some : 0 < tag = search (rules, cases_eq) in
    marked tag present some (omega (arith, full)) (present_fit (λ b. b < 256) (word_bytes x) (bytes_fit 0 8 x)) (sym m)
    refl (ap (λ k. k ∷ []) (sym s))

-- a prefix of a run of zero words
pub zero_front : (k : ℕ) (words : List ℕ) → k ≤ zero_run words → take k words ≡ replicate k 0
zero_front (suc k) (x ∷ words) h = search (rules, zero_run-append 1 words, zero_run-ends, zero_front k words)
zero_front k words h = search rules

-- how many words the group in front takes after its first
abbrev after : ℕ → List ℕ → ℕ
after x words = group_size (x ∷ words) - 1

-- a run of zero words is a group
zeros_group : (words : List ℕ) → IsGroup (group_text 0 (after 0 words) (take (after 0 words) words))
    (0 ∷ take (after 0 words) words)
zeros_group words =
    let k = after 0 words in
    let r : zero_run (0 ∷ words) ≡ 1 + zero_run words = zero_run-append 1 words in
    let size : group_size (0 ∷ words) ≡ min 256 (zero_run (0 ∷ words)) = refl in
    let e : suc k ≡ 1 + k = omega arith in
    zeros k (omega (arith, r, size)) refl (search (rules, zero_front))

-- a word without a zero byte and those that go on with it are a group
plain_group_of : (x : ℕ) (words : List ℕ) → IsWord x → AllByRecursion IsWord words → zero_bytes x ≡ 0 →
    IsGroup (group_text x (after x words) (take (after x words) words)) (x ∷ take (after x words) words)
plain_group_of x words h all z =
    let k = after x words in
    let n : x ≢ 0 = nonzero_word x (omega (arith, z)) in
    let size : group_size (x ∷ words) ≡ 1 + min 255 (full_run words) = rw (ne_eqb x 0 n, z) refl in
    let le = front-le (λ w. nat_le (zero_bytes w) 1) words in
    let l : length (take k words) ≡ k = length-take-le k words (omega (arith, size, le)) in
    let text : group_text x k (take k words) ≡ 255 ∷ (word_bytes x ++ k ∷ plain_text (take k words)) =
    rw (ne_eqb x 0 n, z) refl in
    plain x (take k words) h (all_take IsWord k words all) (omega (arith, l, size))
    (text ∙ ap (λ c. 255 ∷ (word_bytes x ++ c ∷ plain_text (take k words))) (sym l)) refl

-- any other word is a group by itself
marked_group_of : (x : ℕ) (words : List ℕ) → IsWord x → x ≢ 0 → zero_bytes x ≢ 0 →
    IsGroup (group_text x (after x words) (take (after x words) words)) (x ∷ take (after x words) words)
marked_group_of x words h n z =
    let some : 0 < zero_bytes x = (let no : zero_bytes x ≡ 0 → ⊥ = z in omega (arith, no)) in
    search (rules, ne_eqb, marked_group)

-- the text of the group in front is a group, which represents the words that it takes
pub front_group : (x : ℕ) (words : List ℕ) → IsWord x → AllByRecursion IsWord words →
    IsGroup (group_text x (group_size (x ∷ words) - 1) (take (group_size (x ∷ words) - 1) words))
    (x ∷ take (group_size (x ∷ words) - 1) words)
front_group x words h all = elim (cases_eq x 0) [
  | inl e ↦ subst (λ y. IsGroup (group_text y (after y words) (take (after y words) words))
      (y ∷ take (after y words) words)) (sym e) (zeros_group words)
  | inr n ↦ elim (cases_eq (zero_bytes x) 0) [
    | inl z ↦ plain_group_of x words h all z
    | inr z ↦ marked_group_of x words h n z
  ]
]

-- in this many groups at most
pack_in_unpacks : (n : ℕ) (words : List ℕ) → length words ≤ n → AllByRecursion IsWord words
    → Unpacks (pack_in n words) words
pack_in_unpacks (suc n) (x ∷ words) l all =
    let k = group_size (x ∷ words) - 1 in
    subst (λ w. Unpacks (group_text x k (take k words) ++ pack_in n (drop k words)) w)
    (ap (λ w. x ∷ w) (take-append-drop k words))
    (unpacks_with (group_text x k (take k words)) (x ∷ take k words) (pack_in n (drop k words)) (drop k words)
    (front_group x words all.0 all.1)
    (pack_in_unpacks n (drop k words) (omega (arith, l, length-drop k words)) (all_drop IsWord k words all.1)))
pack_in_unpacks zero [] l all = record { groups = []; each = tt; text = refl; encoded = refl }
pack_in_unpacks (suc n) [] l all = record { groups = []; each = tt; text = refl; encoded = refl }
pack_in_unpacks zero (x ∷ words) l all = absurd (omega arith)

-- the packed text of words unpacks to these words
pub pack_text_unpacks : (words : List ℕ) → AllByRecursion IsWord words → Unpacks (pack_text words) words
pack_text_unpacks words all = pack_in_unpacks (length words) words (omega arith) all

-- and gives them, to the end
pub pack_text_reads : (words : List ℕ) → AllByRecursion IsWord words
    → (unpacked (pack_text words) ≡ words) × (packed_is_cut (pack_text words) ≡ false)
pack_text_reads words all = search (rules, pack_text_unpacks, unpacks_words, unpacks_whole)
