-- Moves of bytes within a word, where a mask marks the bytes that move (standard: Packing).
use Rattle.std.specs.Prelude.{Bool, List, [], drop, false, get_or, if◌then◌else◌, replicate, suc, take, true, zero, ℕ}
use Rattle.std.specs.Prelude.{◌%◌, ◌&&◌, ◌++◌, ◌+◌, ◌-◌, ◌/◌, ◌==◌, ◌||◌, ◌∷◌}
use Rattle.std.specs.Simd.Lanes.{zip2}
use Rattle.cap_spec.specs.Plain.{word_bytes}
use Rattle.cap_pack.specs.Places.{spread_row, squeeze_row}

-- whether each byte of a mask is 0 or 255
abbrev pub is_mask : List ℕ → Bool
is_mask [] = true
is_mask (m ∷ ms) = (m == 0 || m == 255) && is_mask ms

-- the elements that a mask marks, with `none` in place of the others; and the other way round
abbrev pub kept : ℕ → List ℕ → List ℕ → List ℕ
kept none ms xs = zip2 (λ m x. if m == 0 then none else x) ms xs

abbrev pub left : ℕ → List ℕ → List ℕ → List ℕ
left none ms xs = zip2 (λ m x. if m == 0 then x else none) ms xs

-- the elements that a mask marks, moved k places down, or up
abbrev pub lowered : ℕ → ℕ → List ℕ → List ℕ → List ℕ
lowered k none ms xs = drop k (kept none ms xs) ++ replicate k none

abbrev pub raised : ℕ → ℕ → List ℕ → List ℕ → List ℕ
raised k none ms xs = replicate k none ++ take (8 - k) (kept none ms xs)

-- Places, of which 128 is none: one of two, and whether not both are places.
abbrev pub one_place : ℕ → ℕ → ℕ
one_place a b = if a == 128 then b else a

abbrev pub are_apart : List ℕ → List ℕ → Bool
are_apart (a ∷ ps) (b ∷ qs) = (a == 128 || b == 128) && are_apart ps qs
are_apart _ _ = true

-- the places after a move down, or up
abbrev pub places_down : ℕ → ℕ → List ℕ → List ℕ
places_down k mask ps = zip2 one_place (left 128 (word_bytes mask) ps) (lowered k 128 (word_bytes mask) ps)

abbrev pub places_up : ℕ → ℕ → List ℕ → List ℕ
places_up k mask ps = zip2 one_place (left 128 (word_bytes mask) ps) (raised k 128 (word_bytes mask) ps)

-- whether no byte moves to where another one is
abbrev pub moves_down : ℕ → ℕ → List ℕ → Bool
moves_down k mask ps = is_mask (word_bytes mask) && are_apart (left 128 (word_bytes mask) ps) (lowered k 128 (word_bytes mask) ps)

abbrev pub moves_up : ℕ → ℕ → List ℕ → Bool
moves_up k mask ps = is_mask (word_bytes mask) && are_apart (left 128 (word_bytes mask) ps) (raised k 128 (word_bytes mask) ps)

-- whether lists are the same
abbrev pub same_list : List ℕ → List ℕ → Bool
same_list [] [] = true
same_list (x ∷ xs) (y ∷ ys) = x == y && same_list xs ys
same_list _ _ = false

-- for each of the lowest n bits of a tag its number from k on, or none if it is clear
abbrev pub marked_at : ℕ → ℕ → ℕ → List ℕ
marked_at zero tag k = []
marked_at (suc n) tag k = (if tag % 2 == 0 then 128 else k) ∷ marked_at n (tag / 2) (k + 1)

-- whether three masks move the bytes that a tag marks together, in order, by 1, 2 and 4 places down
abbrev pub squeezes : ℕ → List ℕ → Bool
squeezes tag masks =
    let none = marked_at 8 tag 0 in
    let one = places_down 1 (get_or masks 0 0) none in
    let two = places_down 2 (get_or masks 1 0) one in
    moves_down 1 (get_or masks 0 0) none && (moves_down 2 (get_or masks 1 0) one && (moves_down 4 (get_or masks 2 0) two
    && same_list (places_down 4 (get_or masks 2 0) two) (squeeze_row tag)))

-- whether a mask marks the first bytes, as many as a tag marks, and three more move them to the marked places, by 4, 2 and 1
-- places up
abbrev pub spreads : ℕ → List ℕ → Bool
spreads tag masks =
    let all = kept 128 (word_bytes (get_or masks 0 0)) (0 ∷ 1 ∷ 2 ∷ 3 ∷ 4 ∷ 5 ∷ 6 ∷ 7 ∷ []) in
    let four = places_up 4 (get_or masks 1 0) all in
    let two = places_up 2 (get_or masks 2 0) four in
    is_mask (word_bytes (get_or masks 0 0)) && (moves_up 4 (get_or masks 1 0) all && (moves_up 2 (get_or masks 2 0) four
    && (moves_up 1 (get_or masks 3 0) two && same_list (places_up 1 (get_or masks 3 0) two) (spread_row tag))))
