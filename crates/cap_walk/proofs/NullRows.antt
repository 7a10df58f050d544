-- Null words in a row, by their bytes.
use Rattle.std.proofs.lemmas.List.Elements.{recursion_from_All}
use Rattle.cap_spec.proofs.Lemmas.{length_plain, plain_reads, range_length, words_exact}
use Rattle.cap_spec.proofs.ProofNames.{All, List, Some, ap, arith, drop, drop-drop, get_or, get_or-drop, get_or-take}
use Rattle.cap_spec.proofs.ProofNames.{inl, inr, length, length-drop, refl, slice_get, subst, sym, take, ℕ, ◌%◌, ◌*◌, ◌+◌}
use Rattle.cap_spec.proofs.ProofNames.{◌-◌, ◌<◌, ◌∙◌, ◌≡◌, ◌≤◌, cases_lt, get_or_from_slice_get, slice_get-get_or}
use Rattle.cap_spec.proofs.ProofNames.{slice_get_within, little_number, words_from, HasWord, segment_of}
use Rattle.cap_spec.proofs.ProofNames.{plain_text, plain_words, IsWord}
use Rattle.cap_frame.proofs.Cuts.{word_at}

-- What is left of a row of bytes: all words before it are null.
pub record NullsBefore (row rest : List ℕ) : Type 0 where
  pub within : length rest ≤ length row
  pub left : rest ≡ drop (length row - length rest) row
  pub whole : (length row - length rest) % 8 ≡ 0
  pub null : (k : ℕ) → 8 * k < length row - length rest → slice_get (plain_words row) k ≡ Some 0

-- there are none before all
pub no_nulls : (row : List ℕ) → NullsBefore row row
no_nulls row =
    let e : length row - length row ≡ 0 = omega arith in
    record { within = omega arith; left = rw e refl; whole = rw e refl; null = λ k lt. absurd (omega (arith, lt)) }

-- and one more where the next word is null
pub one_null : (row rest : List ℕ) → NullsBefore row rest → 8 ≤ length rest → little_number 8 rest ≡ 0 → NullsBefore row (drop 8 rest)
one_null row rest s long zero =
    let d = length row - length rest in
    let shorter = length-drop 8 rest in
    let further : length row - length (drop 8 rest) ≡ d + 8 = omega (arith, shorter, long, s.within) in
    let moved : drop 8 rest ≡ drop (d + 8) row = ap (drop 8) s.left ∙ drop-drop 8 d row in record {
      within = omega (arith, shorter, s.within);
      left = moved ∙ ap (λ n. drop n row) (sym further);
      whole = omega (arith, further, s.whole);
      null = λ k lt. elim (cases_lt (8 * k) d) [
        | inl early ↦ s.null k early
        | inr late ↦
            let here : 8 * k ≡ d = omega (arith, late, lt, further, s.whole) in
            let inside : k < length (plain_words row) = omega (arith, words_exact row, here, s.within, long) in
            word_at row k inside
            ∙ ap (λ x. Some x) (ap (λ n. little_number 8 (drop n row)) here ∙ (ap (little_number 8) (sym s.left) ∙ zero))
      ];
    }

-- bytes of words of a segment have eight for each
pub row_length : (m : List (List ℕ)) (t b n : ℕ) (row : List ℕ) → b + n ≤ length (segment_of m t) → row ≡ plain_text (words_from m t b n) → length row ≡ 8 * n
row_length m t b n row inside same = ap length same ∙ (length_plain (words_from m t b n) ∙ ap (λ i. 8 * i) (range_length m t b n inside))

-- and a null word of them is one of the segment
pub null_in_row : (m : List (List ℕ)) (t b n k : ℕ) (row : List ℕ) → b + n ≤ length (segment_of m t) → All IsWord (words_from m t b n)
    → row ≡ plain_text (words_from m t b n) → slice_get (plain_words row) k ≡ Some 0 → HasWord m t (b + k) 0
null_in_row m t b n k row inside are same null =
    let ws = words_from m t b n in
    let own = segment_of m t in
    let there : slice_get ws k ≡ Some 0 = subst (λ (xs : List ℕ). slice_get xs k ≡ Some 0) (ap plain_words same ∙ plain_reads ws (recursion_from_All IsWord ws are)) null in
    let few : k < length ws = slice_get_within ws k 0 there in
    let lt : k < n = omega (arith, few, range_length m t b n inside) in
    let e : n ≡ b + n - b = omega arith in
    let zero : get_or own (b + k) 0 ≡ 0 =
    sym (get_or-drop b own k 0) ∙ (sym (get_or-take n (drop b own) k 0 lt) ∙ (ap (λ i. get_or (take i (drop b own)) k 0) e ∙ get_or_from_slice_get ws k 0 0 there)) in
    slice_get-get_or own (b + k) 0 (omega (arith, inside, lt)) ∙ ap (λ x. Some x) zero
