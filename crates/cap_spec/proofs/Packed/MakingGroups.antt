-- Bytes by their head: a whole group in front is one, and the beginning of one can be completed.
use Rattle.cap_spec.proofs.Bytes.Lists.{all_append, all_take}
use Rattle.cap_spec.proofs.Bytes.Plain.{eight_word, length_plain, plain_split}
use Rattle.cap_spec.proofs.Packed.Groups.{plain_group}
use Rattle.cap_spec.proofs.Packed.Unpacking.{length_marked, spread_append, words_marked}
use Rattle.cap_spec.proofs.ProofNames.{List, [], ap, arith, drop, get_or, get_or-take, inl, inr, length, length-append}
use Rattle.cap_spec.proofs.ProofNames.{length-drop, length-take-le, refl, replicate, slice_index, subst, suc, sym, take}
use Rattle.cap_spec.proofs.ProofNames.{take-append-drop, zero, ℕ, ◌*◌, ◌++◌, ◌+◌, ◌-◌, ◌<◌, ◌∙◌, ◌∷◌, ◌≡◌, ◌≢◌, ◌≤◌}
use Rattle.cap_spec.proofs.ProofNames.{cases_eq, length-replicate, nil_from_length, AllByRecursion, little_number}
use Rattle.cap_spec.proofs.ProofNames.{plain_text, plain_words, IsGroup, group_length, group_words, marked, marks}
use Rattle.cap_spec.proofs.ProofNames.{plain, spread, zeros, common_steps, rules}

-- bytes of whole words: this many words
pub aligned_words : (n : ℕ) (bytes : List ℕ) → AllByRecursion (λ b. b < 256) bytes → length bytes ≡ 8 * n
    → length (plain_words bytes) ≡ n
aligned_words n bytes all l = search (rules, plain_split, length_plain, length-append)

-- they are the text of these words
pub aligned_text : (n : ℕ) (bytes : List ℕ) → AllByRecursion (λ b. b < 256) bytes → length bytes ≡ 8 * n
    → plain_text (plain_words bytes) ≡ bytes
aligned_text n bytes all l = search (rules, plain_split, length-drop, nil_from_length)

-- eight bytes, a count, and the bytes of this many words are a plain group after its tag
makes_plain : (a b c d e f g h n : ℕ) (bytes : List ℕ)
    → AllByRecursion (λ x. x < 256) (a ∷ b ∷ c ∷ d ∷ e ∷ f ∷ g ∷ h ∷ n ∷ bytes) → length bytes ≡ 8 * n →
    IsGroup (255 ∷ a ∷ b ∷ c ∷ d ∷ e ∷ f ∷ g ∷ h ∷ n ∷ bytes) (plain_words (a ∷ b ∷ c ∷ d ∷ e ∷ f ∷ g ∷ h ∷ bytes))
makes_plain a b c d e f g h n bytes all l =
    let eight : AllByRecursion (λ x. x < 256) (a ∷ b ∷ c ∷ d ∷ e ∷ f ∷ g ∷ h ∷ []) = search rules in
    let count : n < 256 = all.1.1.1.1.1.1.1.1.0 in
    let more = all.1.1.1.1.1.1.1.1.1 in
    let x = little_number 8 (a ∷ b ∷ c ∷ d ∷ e ∷ f ∷ g ∷ h ∷ []) in
    let k : length (plain_words bytes) ≡ n = aligned_words n bytes more l in
    let t : plain_text (plain_words bytes) ≡ bytes = aligned_text n bytes more l in
    let text : plain_group x (plain_words bytes) ≡ 255 ∷ a ∷ b ∷ c ∷ d ∷ e ∷ f ∷ g ∷ h ∷ n ∷ bytes =
    search rules in
    plain x (plain_words bytes) (eight_word a b c d e f g h eight) (plain_split bytes more).are_words
    (omega (arith, k, count)) (sym text) refl

-- bytes as long as the count among them says are a plain group after its tag
pub is_plain : (bytes : List ℕ) → AllByRecursion (λ x. x < 256) bytes → length bytes ≡ 9 + 8 * slice_index bytes 8 →
    IsGroup (255 ∷ bytes) (plain_words (take 8 bytes ++ drop 9 bytes))
is_plain (a ∷ b ∷ c ∷ d ∷ e ∷ f ∷ g ∷ h ∷ n ∷ bytes) all l = makes_plain a b c d e f g h n bytes all
    (search rules)
is_plain bytes all l = search rules

-- zeros after a list change no number in it, read as zero past its end
padded : (bytes : List ℕ) (k i : ℕ) → get_or (bytes ++ replicate k 0) i 0 ≡ get_or bytes i 0
padded [] (suc k) (suc i) = padded [] k i
padded (x ∷ bytes) k (suc i) = padded bytes k i
padded bytes k i = refl

-- zeros are bytes
zeros_are_bytes : (k : ℕ) → AllByRecursion (λ b. b < 256) (replicate k 0)
zeros_are_bytes zero = tt
zeros_are_bytes (suc k) = ((omega arith), zeros_are_bytes k)

-- What completes the beginning of a group.
pub record Completes (bytes : List ℕ) : Type 0 where
  pub lacking : List ℕ
  pub some : lacking ≢ []
  pub words : List ℕ
  pub group : IsGroup (bytes ++ lacking) words

-- this many zeros are some
zeros_some : (k : ℕ) → 0 < k → replicate {A = ℕ} k 0 ≢ []
zeros_some k p e = search rules

-- of a plain group
complete_plain : (bytes : List ℕ) → AllByRecursion (λ b. b < 256) bytes → length bytes < 9 + 8 * slice_index bytes 8
    → Completes (255 ∷ bytes)
complete_plain bytes all h =
    let k = (9 + 8 * slice_index bytes 8) - length bytes in
    let full = bytes ++ replicate k 0 in
    let i : slice_index full 8 ≡ slice_index bytes 8 = padded bytes k 8 in
    let l : length full ≡ 9 + 8 * slice_index full 8 = omega (arith, length-append {A = ℕ}, length-replicate {A = ℕ}) in
    record {
      lacking = replicate k 0;
      some = zeros_some k (omega (arith, h));
      words = plain_words (take 8 full ++ drop 9 full);
      group = is_plain full (all_append (λ b. b < 256) bytes (replicate k 0) all (zeros_are_bytes k)) l;
    }

-- of any other but one of zeros
complete_marked : (tag : ℕ) (bytes : List ℕ) → 0 < tag → tag < 255 → AllByRecursion (λ b. b < 256) bytes
    → length bytes < marks 8 tag → Completes (tag ∷ bytes)
complete_marked tag bytes p q all h =
    let k = marks 8 tag - length bytes in
    let r : length (replicate {A = ℕ} k 0) ≡ k = length-replicate {A = ℕ} k 0 in
    let a : length (bytes ++ replicate k 0) ≡ length bytes + length (replicate {A = ℕ} k 0) =
    length-append bytes (replicate k 0) in
    record {
      lacking = replicate k 0;
      some = zeros_some k (omega (arith, h));
      words = spread 8 tag (bytes ++ replicate k 0) ∷ [];
      group = marked tag (bytes ++ replicate k 0) p q
          (all_append (λ b. b < 256) bytes (replicate k 0) all (zeros_are_bytes k)) (omega (arith, a, r, h)) refl refl;
    }

-- of one of zeros
complete_zeros : (bytes : List ℕ) → length bytes < 1 → Completes (0 ∷ bytes)
complete_zeros [] h = record {
  lacking = 0 ∷ [];
  some = (λ e. cc);
  words = 0 ∷ [];
  group = zeros 0 (omega arith) refl refl;
}
complete_zeros (x ∷ bytes) h = absurd (omega arith)

-- bytes that are shorter than their head says begin a group
pub begins_group : (tag : ℕ) (bytes : List ℕ) → AllByRecursion (λ b. b < 256) (tag ∷ bytes)
    → length (tag ∷ bytes) < group_length (tag ∷ bytes) → Completes (tag ∷ bytes)
begins_group tag bytes all h = grind (arith, common_steps, complete_zeros, complete_plain, complete_marked)

-- the bytes of a whole group of zeros
whole_zeros : (bytes : List ℕ) → AllByRecursion (λ b. b < 256) bytes → 1 ≤ length bytes
    → IsGroup (take 2 (0 ∷ bytes)) (group_words (0 ∷ bytes))
whole_zeros [] all h = absurd (omega arith)
whole_zeros (n ∷ bytes) all h = zeros n all.0 refl refl

-- those of a whole plain group
whole_plain : (bytes : List ℕ) → AllByRecursion (λ b. b < 256) bytes → 9 + 8 * slice_index bytes 8 ≤ length bytes →
    IsGroup (take (10 + 8 * slice_index bytes 8) (255 ∷ bytes)) (group_words (255 ∷ bytes))
whole_plain bytes all h =
    let n = slice_index bytes 8 in
    let full = take (9 + 8 * n) bytes in
    let l : length full ≡ 9 + 8 * n = length-take-le (9 + 8 * n) bytes h in
    let i : slice_index full 8 ≡ n = get_or-take (9 + 8 * n) bytes 8 0 (omega arith) in
    let g : IsGroup (255 ∷ full) (plain_words (take 8 full ++ drop 9 full)) =
    is_plain full (all_take (λ b. b < 256) (9 + 8 * n) bytes all) (omega (arith, l, i)) in
    let t : take (10 + 8 * n) (255 ∷ bytes) ≡ 255 ∷ full =
    ap (λ k. take k (255 ∷ bytes)) (let e : 10 + 8 * n ≡ suc (9 + 8 * n) = omega arith in e) in
    subst (λ k. IsGroup k (group_words (255 ∷ bytes))) (sym t)
    (subst (λ k. IsGroup (255 ∷ full) k) (search rules) g)

-- those of any other
whole_marked : (tag : ℕ) (bytes : List ℕ) → 0 < tag → tag < 255 → AllByRecursion (λ b. b < 256) bytes
    → marks 8 tag ≤ length bytes →
    IsGroup (take (1 + marks 8 tag) (tag ∷ bytes)) (spread 8 tag bytes ∷ [])
whole_marked tag bytes p q all h =
    let n = marks 8 tag in
    let l : length (take n bytes) ≡ n = length-take-le n bytes h in
    let t : take (1 + n) (tag ∷ bytes) ≡ tag ∷ take n bytes =
    ap (λ k. take k (tag ∷ bytes)) (let e : 1 + n ≡ suc n = omega arith in e) in
    let s : spread 8 tag bytes ≡ spread 8 tag (take n bytes) = ap (spread 8 tag) (sym (take-append-drop n bytes))
    ∙ spread_append 8 tag (take n bytes) (drop n bytes) l in
    marked tag (take n bytes) p q (all_take (λ b. b < 256) n bytes all) l t (ap (λ k. k ∷ []) s)

-- bytes that are as long as their head says begin with a whole group
pub whole_group : (tag : ℕ) (bytes : List ℕ) → AllByRecursion (λ b. b < 256) (tag ∷ bytes)
    → group_length (tag ∷ bytes) ≤ length (tag ∷ bytes) →
    IsGroup (take (group_length (tag ∷ bytes)) (tag ∷ bytes)) (group_words (tag ∷ bytes))
whole_group tag bytes all h = elim (cases_eq tag 0) [
  | inl zero_tag ↦
      let l : group_length (tag ∷ bytes) ≡ 2 = ap (λ k. group_length (k ∷ bytes)) zero_tag in
      subst (λ k. IsGroup (take (group_length (k ∷ bytes)) (k ∷ bytes)) (group_words (k ∷ bytes))) (sym zero_tag)
      (whole_zeros bytes all.1 (omega (arith, l, h)))
  | inr some_tag ↦ elim (cases_eq tag 255) [
    | inl full_tag ↦
        let l : group_length (tag ∷ bytes) ≡ 10 + 8 * slice_index bytes 8 =
        ap (λ k. group_length (k ∷ bytes)) full_tag in
        subst (λ k. IsGroup (take (group_length (k ∷ bytes)) (k ∷ bytes)) (group_words (k ∷ bytes))) (sym full_tag)
        (whole_plain bytes all.1 (omega (arith, l, h)))
    | inr other_tag ↦
        let no : tag ≡ 0 → ⊥ = some_tag in
        let not : tag ≡ 255 → ⊥ = other_tag in
        let below : tag < 256 = all.0 in
        let p : 0 < tag = omega (arith, no) in
        let q : tag < 255 = omega (arith, not, below) in
        let l = length_marked tag bytes p q in
        subst (λ k. IsGroup (take k (tag ∷ bytes)) (group_words (tag ∷ bytes))) (sym l)
        (subst (λ k. IsGroup (take (1 + marks 8 tag) (tag ∷ bytes)) k) (sym (words_marked tag bytes p q))
        (whole_marked tag bytes p q all.1 (omega (arith, l, h))))
  ]
]
