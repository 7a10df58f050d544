-- Segments that are separate slices.
use Rattle.std.proofs.Common.{Bor}
use Rattle.cap_spec.proofs.Bytes.Plain.{words_exact}
use Rattle.cap_spec.proofs.ProofNames.{List, [], ap, arith, below_more, get_or, length, subst, sum, take, zero-add, ℕ, ◌%◌}
use Rattle.cap_spec.proofs.ProofNames.{◌+◌, ◌/◌, ◌<◌, ◌^◌, ◌∙◌, ◌∷◌, ◌≡◌, ◌≤◌, get_or-map, get_or_default, length-map}
use Rattle.cap_spec.proofs.ProofNames.{take_more, sum_by-append, sizes_of, IsMessage, capped, plain_words, rules}
use Rattle.cap_frame.proofs.Cuts.{front_sum}
use Rattle.cap_calls.specs.Slices.{bytes_of, segments_in, words_of_slices}

-- no slice
abbrev pub no_slice : Bor (List ℕ)
no_slice = record { ref_ptr = (0, 0); now = [] }

-- slice s has the bytes of part s
pub part_is : (slices : List (Bor (List ℕ))) (s : ℕ) → s < length slices
    → get_or (bytes_of slices) s [] ≡ (get_or slices s no_slice).now
part_is slices s h = get_or-map (λ (x : Bor (List ℕ)). x.now) slices s no_slice [] h

-- there are as many parts as slices
pub parts_count : (slices : List (Bor (List ℕ))) → length (bytes_of slices) ≡ length slices
parts_count slices = length-map slices (λ (x : Bor (List ℕ)). x.now)

-- there are as many segments as slices
pub count_is : (slices : List (Bor (List ℕ))) → length (segments_in (bytes_of slices)) ≡ length slices
count_is slices = length-map (bytes_of slices) plain_words ∙ parts_count slices

-- segment s has the words of part s
pub segment_is : (parts : List (List ℕ)) (s : ℕ) → s < length parts
    → get_or (segments_in parts) s [] ≡ plain_words (get_or parts s [])
segment_is parts s h = get_or-map plain_words parts s [] [] h

-- and so of slice s
pub slice_words : (slices : List (Bor (List ℕ))) (s : ℕ) → s < length slices
    → get_or (segments_in (bytes_of slices)) s [] ≡ plain_words (get_or slices s no_slice).now
slice_words slices s h =
    segment_is (bytes_of slices) s (omega (arith, parts_count slices, h)) ∙ ap plain_words (part_is slices s h)

pub slice_size : (slices : List (Bor (List ℕ))) (s : ℕ) → s < length slices
    → length (get_or (segments_in (bytes_of slices)) s []) ≡ length (get_or slices s no_slice).now / 8
slice_size slices s h = ap (λ (ws : List ℕ). length ws) (slice_words slices s h) ∙ words_exact (get_or slices s no_slice).now

-- as many as fit its length
pub size_is : (parts : List (List ℕ)) (s : ℕ) → s < length parts
    → get_or (sizes_of (segments_in parts)) s 0 ≡ length (get_or parts s []) / 8
size_is parts s h =
    let inside : s < length (segments_in parts) = omega (arith, length-map parts plain_words) in
    get_or-map (λ (ws : List ℕ). length ws) (segments_in parts) s [] 0 inside
    ∙ (ap (λ (ws : List ℕ). length ws) (segment_is parts s h) ∙ words_exact (get_or parts s []))

-- The sizes of the first s parts were summed, and each is whole.
pub record SumSoFar (parts : List (List ℕ)) (s words : ℕ) : Type 0 where
  pub total : words ≡ capped (sum (take s (sizes_of (segments_in parts))))
  pub whole : (i : ℕ) → i < s → length (get_or parts i []) % 8 ≡ 0

-- one more
pub sum_more : (parts : List (List ℕ)) (s words more : ℕ) → s < length parts → length (get_or parts s []) % 8 ≡ 0
    → more ≡ capped (words + length (get_or parts s []) / 8) → SumSoFar parts s words → SumSoFar parts (s + 1) more
sum_more parts s words more h w e t =
    let sizes = sizes_of (segments_in parts) in
    let long : length sizes ≡ length parts = length-map (segments_in parts) (λ (ws : List ℕ). length ws) ∙ length-map parts plain_words in
    let inside : s < length sizes = omega (arith, long, h) in
    let next : sum (take (s + 1) sizes) ≡ sum (take s sizes) + sum (get_or sizes s 0 ∷ []) =
    ap sum (take_more sizes s 0 inside) ∙ sum_by-append (λ x. x) (take s sizes) (get_or sizes s 0 ∷ []) in
    search (rules, zero-add, size_is, below_more)

-- each of them is short enough for a segment if their sum is
pub are_message : (slices : List (Bor (List ℕ))) → 1 ≤ length slices → length slices ≤ 512
    → words_of_slices (bytes_of slices) ≤ 268435456 → IsMessage (segments_in (bytes_of slices))
are_message slices some few small =
    let parts = bytes_of slices in
    let m = segments_in parts in
    let sizes = sizes_of m in
    let count = count_is slices in
    let long : length sizes ≡ length m = length-map m (λ (ws : List ℕ). length ws) in
    record {
      some = omega (arith, count, some);
      few = omega (arith, count, few);
      lengths = λ s d l.
          let inside : s < length sizes = omega (arith, long, l) in
          let size : get_or sizes s 0 ≡ length (get_or m s []) = get_or-map (λ (ws : List ℕ). length ws) m s [] 0 l in
          let short : length (get_or m s []) < 2 ^ 32 = omega (arith, size, front_sum sizes s inside, small) in
          subst (λ (ws : List ℕ). length ws < 2 ^ 32) (get_or_default m s [] d l) short;
    }
