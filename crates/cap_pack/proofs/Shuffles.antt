-- Shuffles of bytes, by places that represent the bits of a tag.
use Rattle.std.proofs.Common.{T, add-zero}
use Rattle.std.proofs.lemmas.List.Sums.{length-filter}
use Rattle.std.proofs.lemmas.Simd.{SwzOk, SwzOk-from_Each1, ones-mask_l, swz_l}
use Rattle.cap_spec.proofs.ProofNames.{Bool, List, [], add-one, ap, arith, cond, drop, eqb, eqb-true, filter}
use Rattle.cap_spec.proofs.ProofNames.{get_or, get_or-drop, leb, length, length-append, lt-ltb, ltb, map}
use Rattle.cap_spec.proofs.ProofNames.{not, refl, replicate, subst, suc, sym, take, true, w8, zero, zero-add, ℕ, ◌%◌, ◌&&◌}
use Rattle.cap_spec.proofs.ProofNames.{◌*◌, ◌++◌, ◌+◌, ◌-◌, ◌/◌, ◌<◌, ◌==◌, ◌||◌, ◌∙◌, ◌∷◌, ◌≡◌, ◌≤◌, take-append_seam}
use Rattle.cap_spec.proofs.ProofNames.{and_parts, lt-leb, length-map, length-replicate, map-append, Each1}
use Rattle.cap_spec.proofs.ProofNames.{number_l, little_number, ones, tag_of, zero_bytes, zeros_in, word_bytes, marks}
use Rattle.cap_spec.proofs.ProofNames.{spread, rules}
use Rattle.cap_pack.specs.Moves.{same_list}
use Rattle.cap_pack.specs.Places.{marked_from, spread_from, spread_row, squeeze_row}
use Rattle.cap_pack.proofs.Runs.{bits_after, low_bit}
use Rattle.cap_pack.proofs.Tags.{eight_number, mask_is_tag, word_tag}

-- a tag marks no more bytes than it has bits
marks-le : (n tag : ℕ) → marks n tag ≤ n
marks-le zero tag = omega arith
marks-le (suc n) tag = let rest = marks-le n (tag / 2) in omega arith

pub same_from_test : (xs ys : List ℕ) → same_list xs ys ≡ true → xs ≡ ys
same_from_test (x ∷ xs) (y ∷ ys) e =
    let both = and_parts (eqb x y) (same_list xs ys) e in
    ap (λ z. z ∷ xs) (eqb-true x y both.0) ∙ ap (λ zs. y ∷ zs) (same_from_test xs ys both.1)
same_from_test xs ys e = search rules

-- whether each row of a table passes a test with its number
abbrev pub each_row : (ℕ → List ℕ → Bool) → ℕ → List (List ℕ) → Bool
each_row p t [] = true
each_row p t (row ∷ rows) = p t row && each_row p (t + 1) rows

row_at : (p : ℕ → List ℕ → Bool) (t : ℕ) (rows : List (List ℕ)) → each_row p t rows ≡ true → (i : ℕ) → i < length rows → p (t + i) (get_or rows i []) ≡ true
row_at p t (row ∷ rows) e (suc i) l =
    let next : t + 1 + i ≡ t + suc i = omega arith in
    ap (λ n. p n (get_or rows i [])) (sym next) ∙ row_at p (t + 1) rows (and_parts (p t row) (each_row p (t + 1) rows) e).1 i (omega arith)
row_at p t rows e i l = search (rules, and_parts, each_row, add-zero)

pub row_passes : (p : ℕ → List ℕ → Bool) (rows : List (List ℕ)) → each_row p 0 rows ≡ true → (i : ℕ) → i < length rows → p i (get_or rows i []) ≡ true
row_passes p rows e i l = ap (λ n. p n (get_or rows i [])) (sym (zero-add i)) ∙ row_at p 0 rows e i l

pub row_of : (f : ℕ → List ℕ) (rows : List (List ℕ)) → each_row (λ t row. same_list row (f t)) 0 rows ≡ true → (i : ℕ) → i < length rows → get_or rows i [] ≡ f i
row_of f rows e i l = same_from_test _ _ (row_passes (λ t row. same_list row (f t)) rows e i l)

-- what a lane gets for its place
abbrev pub pick : List ℕ → ℕ → ℕ
pick xs j = cond (leb 128 j) 0 (get_or xs j 0)

shuffled : (xs js : List ℕ) (i : ℕ) → i + length js ≤ 16 → swz_l w8 16 xs i js ≡ map (pick xs) js
shuffled xs [] i h = refl
shuffled xs (j ∷ js) i h = search (rules, swz_l, pick, shuffled xs js (suc i) (omega arith))

-- a place below 128 gets the byte there
pub picked : (xs : List ℕ) (k : ℕ) → k < 128 → pick xs k ≡ get_or (drop k xs) 0 0
picked xs k h = search (rules, lt-leb, get_or-drop, add-zero)

drop_more : (n : ℕ) (l : List ℕ) → drop 1 (drop n l) ≡ drop (suc n) l
drop_more (suc n) (x ∷ l) = drop_more n l
drop_more n l = refl

pub drop_next : (k : ℕ) (xs : List ℕ) → drop (k + 1) xs ≡ drop 1 (drop k xs)
drop_next k xs = ap (λ i. drop i xs) (add-one k) ∙ sym (drop_more k xs)

-- a place that a lane may have
abbrev pub IsPlace : ℕ → Type 0
IsPlace j = T (leb 128 j || ltb j 16)

holds : (t : Bool) → T (t || true)
holds x = search rules

is_place : (k : ℕ) → k < 16 → IsPlace k
is_place k h = subst (λ t. T (leb 128 k || t)) (sym (lt-ltb k 16 h)) (holds (leb 128 k))

each_append : (xs ys : List ℕ) → Each1 IsPlace xs → Each1 IsPlace ys → Each1 IsPlace (xs ++ ys)
each_append [] ys h k = k
each_append (x ∷ xs) ys h k = (h.0, each_append xs ys h.1 k)

no_places : (n : ℕ) → Each1 IsPlace (replicate n 128)
no_places zero = tt
no_places (suc n) = (tt, no_places n)

-- the places of a row

spread_place : (t : Bool) (k : ℕ) → k < 16 → IsPlace (cond t 128 k)
spread_place x k h = search rules

spread_places : (n tag k : ℕ) → k + n ≤ 16 → Each1 IsPlace (spread_from n tag k)
spread_places zero tag k h = tt
spread_places (suc n) tag k h = (spread_place (eqb (tag % 2) 0) k (omega arith), spread_places n (tag / 2) (k + tag % 2) (omega arith))

pub spread_ok : (row lanes : List ℕ) (tag : ℕ) → row ≡ spread_row tag → lanes ≡ row ++ replicate 8 128 → SwzOk w8 16 16 0 lanes
spread_ok row lanes tag e f =
    let all : lanes ≡ spread_row tag ++ replicate 8 128 = f ∙ ap (λ r. r ++ replicate 8 128) e in
    let each : Each1 IsPlace (spread_row tag ++ replicate 8 128) =
    each_append (spread_row tag) (replicate 8 128) (spread_places 8 tag 0 (omega arith)) (no_places 8) in
    subst (λ js. SwzOk w8 16 16 0 js) (sym all) (SwzOk-from_Each1 w8 16 1 16 0 (spread_row tag ++ replicate 8 128) refl (omega arith) each)

-- spreading bytes takes the next of them at each bit that is set
spread_step : (n tag : ℕ) (ys : List ℕ) →
    spread (suc n) tag ys ≡ cond (eqb (tag % 2) 0) (256 * spread n (tag / 2) ys) (get_or ys 0 0 + 256 * spread n (tag / 2) (drop 1 ys))
spread_step n tag ys = search rules

spread_one : (n up k : ℕ) (xs : List ℕ) (r : ℕ) → r < 2 → k < 128 → pick xs (cond (eqb r 0) 128 k) + 256 * spread n up (drop (k + r) xs)
    ≡ cond (eqb r 0) (256 * spread n up (drop k xs)) (get_or (drop k xs) 0 0 + 256 * spread n up (drop 1 (drop k xs)))
spread_one n up k xs r h l = search (rules, zero-add, add-zero, picked, drop_next)

pub spread_picked : (n tag k : ℕ) (xs : List ℕ) → k + n ≤ 128 → number_l 256 (map (pick xs) (spread_from n tag k)) ≡ spread n tag (drop k xs)
spread_picked zero tag k xs h = refl
spread_picked (suc n) tag k xs h = search (rules, spread_one, spread_step, spread_picked n (tag / 2) (k + tag % 2) xs (omega arith))

pub spread_by_places : (xs row lanes : List ℕ) (tag : ℕ) → row ≡ spread_row tag → lanes ≡ row ++ replicate 8 128 →
    little_number 8 (take 8 (swz_l w8 16 xs 0 lanes)) ≡ spread 8 tag xs
spread_by_places xs row lanes tag e f =
    let all : lanes ≡ spread_row tag ++ replicate 8 128 = f ∙ ap (λ r. r ++ replicate 8 128) e in
    ap (λ js. little_number 8 (take 8 (swz_l w8 16 xs 0 js))) all
    ∙ ap (λ l. little_number 8 (take 8 l)) (shuffled xs (spread_row tag ++ replicate 8 128) 0 (omega arith))
    ∙ sym (eight_number (map (pick xs) (spread_row tag)) refl) ∙ spread_picked 8 tag 0 xs (omega arith)

-- zeros after the bytes change nothing
none_either_way : (t : Bool) (x y : ℕ) → x ≡ 0 → y ≡ 0 → cond t (256 * x) (0 + 256 * y) ≡ 0
none_either_way x u y e f = search rules

zeros_spread : (n tag m : ℕ) → spread n tag (replicate m 0) ≡ 0
zeros_spread (suc n) tag (suc m) = none_either_way (eqb (tag % 2) 0) _ _ (zeros_spread n (tag / 2) (suc m)) (zeros_spread n (tag / 2) m)
zeros_spread n tag m = refl

spread_with_zeros : (n tag m : ℕ) (bs : List ℕ) → spread n tag (bs ++ replicate m 0) ≡ spread n tag bs
spread_with_zeros (suc n) tag m (b ∷ bs) = search (rules, spread_with_zeros n (tag / 2) m (b ∷ bs), spread_with_zeros n (tag / 2) m bs)
spread_with_zeros n tag m bs = search (rules, zeros_spread)

pub clear_bit : (z : Bool) → eqb (cond z 0 1) 0 ≡ z
clear_bit x = search rules

-- the bytes that aren't zero
abbrev pub present : List ℕ → List ℕ
present bs = filter (λ b. not (b == 0)) bs

marked_first : (z : Bool) (n t k : ℕ) → marked_from (suc n) (cond z 0 1 + 2 * t) k ≡ cond z [] (k ∷ []) ++ marked_from n t (k + 1)
marked_first z n t k = search (rules, low_bit, clear_bit, bits_after)

first_picked : (z : Bool) (xs ks : List ℕ) (k b : ℕ) → pick xs k ≡ b →
    map (pick xs) (cond z [] (k ∷ []) ++ ks) ≡ cond (not z) (b ∷ map (pick xs) ks) (map (pick xs) ks)
first_picked x xs ks k b e = search rules

-- the places of the bits of a tag pick the bytes that aren't zero
marked_picked : (bs xs ys : List ℕ) (k : ℕ) → drop k xs ≡ bs ++ ys → k + length bs ≤ 128 → map (pick xs) (marked_from (length bs) (tag_of bs) k) ≡ present bs
marked_picked [] xs ys k e h = refl
marked_picked (b ∷ bs) xs ys k e h = search (rules, pick, picked, drop_next, marked_first, first_picked, marked_picked bs xs ys (k + 1) (drop_next k xs ∙ ap (drop 1) e) (omega arith))

-- as many as the tag has bits set
count_first : (z : Bool) (b : ℕ) (l : List ℕ) → length (cond (not z) (b ∷ l) l) ≡ cond z 0 1 + length l
count_first x b l = search rules

pub present_count : (bs : List ℕ) → marks (length bs) (tag_of bs) ≡ length (present bs)
present_count [] = refl
present_count (b ∷ bs) = search (rules, low_bit, bits_after, count_first, present, present_count bs)

-- the places of a row
squeeze_place : (t : Bool) (k : ℕ) (ys : List ℕ) → k < 16 → Each1 IsPlace ys → Each1 IsPlace (cond t [] (k ∷ []) ++ ys)
squeeze_place x k ys h each = search rules

squeeze_places : (n tag k : ℕ) → k + n ≤ 16 → Each1 IsPlace (marked_from n tag k)
squeeze_places zero tag k h = tt
squeeze_places (suc n) tag k h = search (rules, squeeze_place, squeeze_places n (tag / 2) (k + 1) (omega arith))

length_first : (r k : ℕ) (ys : List ℕ) → r < 2 → length (cond (eqb r 0) [] (k ∷ []) ++ ys) ≡ r + length ys
length_first r k ys h = search rules

length_marked : (n tag k : ℕ) → length (marked_from n tag k) ≡ marks n tag
length_marked zero tag k = refl
length_marked (suc n) tag k = search (rules, length_first, length_marked n (tag / 2) (k + 1))

pub length_row : (tag : ℕ) → length (squeeze_row tag) ≡ 8
length_row tag =
    let few = marks-le 8 tag in
    length-append (marked_from 8 tag 0) (replicate (8 - marks 8 tag) 128)
    ∙ omega (arith, length_marked 8 tag 0, length-replicate {A = ℕ} (8 - marks 8 tag) 128, few)

length_lanes : (tag : ℕ) → length (squeeze_row tag ++ replicate 8 128) ≡ 16
length_lanes tag = length-append (squeeze_row tag) (replicate 8 128) ∙ ap (λ n. n + 8) (length_row tag)

pub squeeze_ok : (row lanes : List ℕ) (tag : ℕ) → row ≡ squeeze_row tag → lanes ≡ row ++ replicate 8 128 → SwzOk w8 16 16 0 lanes
squeeze_ok row lanes tag e f =
    let all : lanes ≡ squeeze_row tag ++ replicate 8 128 = f ∙ ap (λ r. r ++ replicate 8 128) e in
    let each : Each1 IsPlace (squeeze_row tag ++ replicate 8 128) = search (rules, each_append, squeeze_places, no_places) in
    subst (λ js. SwzOk w8 16 16 0 js) (sym all) (SwzOk-from_Each1 w8 16 1 16 0 (squeeze_row tag ++ replicate 8 128) refl (omega (arith, length_lanes tag)) each)

pub none_picked : (xs : List ℕ) (n : ℕ) → map (pick xs) (replicate n 128) ≡ replicate n 0
none_picked xs zero = refl
none_picked xs (suc n) = ap (λ l. 0 ∷ l) (none_picked xs n)

-- the lanes below
low_lanes : (low above : List ℕ) → length low ≡ 8 → take 8 (low ++ above) ≡ low
low_lanes low above e = ap (λ n. take n (low ++ above)) (sym e) ∙ take-append_seam low above

-- a row picks the bytes that aren't zero, and zeros after them
pub row_picked : (word xs ys : List ℕ) (tag : ℕ) → length word ≡ 8 → xs ≡ word ++ ys → tag ≡ tag_of word →
    map (pick xs) (squeeze_row tag) ≡ present word ++ replicate (8 - marks 8 tag) 0
row_picked word xs ys tag l e t =
    map-append (pick xs) (marked_from 8 tag 0) (replicate (8 - marks 8 tag) 128)
    ∙ ap (λ front. front ++ map (pick xs) (replicate (8 - marks 8 tag) 128))
    ((search (rules, pick xs, marked_picked word xs ys 0 e (omega arith))))
    ∙ ap (λ zeros. present word ++ zeros) (none_picked xs (8 - marks 8 tag))

pub squeeze_by_places : (word xs row lanes : List ℕ) (tag : ℕ) → length word ≡ 8 → xs ≡ word ++ replicate 8 0 → tag ≡ tag_of word → row ≡ squeeze_row tag →
    lanes ≡ row ++ replicate 8 128 → take 8 (swz_l w8 16 xs 0 lanes) ≡ present word ++ replicate (8 - marks 8 tag) 0
squeeze_by_places word xs row lanes tag l e t r f =
    let all : lanes ≡ squeeze_row tag ++ replicate 8 128 = f ∙ ap (λ js. js ++ replicate 8 128) r in
    let low : map (pick xs) (squeeze_row tag) ≡ present word ++ replicate (8 - marks 8 tag) 0 = row_picked word xs (replicate 8 0) tag l e t in
    search (rules, swz_l, shuffled, length_lanes, map-append, pick, low_lanes, length-map, length_row)

-- the number of bits that are set
pub ones_of_tag : (w tag : ℕ) → tag ≡ word_tag w → ones tag ≡ length (present (word_bytes w))
ones_of_tag w tag e =
    ap ones (e ∙ sym (mask_is_tag (word_bytes w))) ∙ ones-mask_l (λ b. not (eqb b 0)) (word_bytes w) ∙ sym (length-filter (λ b. not (b == 0)) (word_bytes w))

-- each byte is one that is present, or a zero one
present_or_zero : (bs : List ℕ) → length (present bs) + zeros_in bs ≡ length bs
present_or_zero [] = refl
present_or_zero (b ∷ bs) = search (rules, present, present_or_zero bs)

-- the others are zero
pub present_and_zeros : (w : ℕ) → length (present (word_bytes w)) + zero_bytes w ≡ 8
present_and_zeros w = present_or_zero (word_bytes w)

pub gathered : (w tag : ℕ) (out : List ℕ) → tag ≡ word_tag w → out ≡ present (word_bytes w) ++ replicate (8 - marks 8 tag) 0 →
    out ≡ present (word_bytes w) ++ replicate (8 - ones tag) 0
gathered w tag out t e =
    let count : marks 8 tag ≡ ones tag = ap (marks 8) t ∙ present_count (word_bytes w) ∙ sym (ones_of_tag w tag t) in
    e ∙ ap (λ n. present (word_bytes w) ++ replicate (8 - n) 0) count

pub scattered : (tag word : ℕ) (bytes wide lanes low : List ℕ) → word ≡ little_number 8 low → low ≡ take 8 lanes →
    little_number 8 (take 8 lanes) ≡ spread 8 tag wide →
    wide ≡ bytes ++ replicate 8 0 → word ≡ spread 8 tag bytes
scattered tag word bytes wide lanes low e f g h = e ∙ ap (little_number 8) f ∙ g ∙ ap (spread 8 tag) h ∙ spread_with_zeros 8 tag 8 bytes
