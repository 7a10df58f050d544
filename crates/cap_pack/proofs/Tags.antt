-- The tags of words, as the bits of one comparison of all their bytes.
use Rattle.std.proofs.lemmas.Simd.{take_more_put_chunk}
use Rattle.std.specs.Simd.Lanes.{digits_l, put_chunk}
use Rattle.cap_spec.proofs.Lemmas.{length_plain, bytes_back}
use Rattle.cap_spec.proofs.Packed.Repacking.{tag_below}
use Rattle.cap_spec.proofs.ProofNames.{Bool, List, [], ap, arith, cond, eqb, flat_map, if◌then◌else◌, length, map, not}
use Rattle.cap_spec.proofs.ProofNames.{refl, replicate, suc, take, take-add, w8, ℕ, ◌%◌, ◌*◌, ◌++◌, ◌+◌, ◌<◌, ◌==◌, ◌∙◌}
use Rattle.cap_spec.proofs.ProofNames.{◌∷◌, ◌≡◌, ◌≤◌, length-map, map-append, bitmask_splat, length-chunk}
use Rattle.cap_spec.proofs.ProofNames.{AllByRecursion, Each1, chunk, mask_l, number_l, top, zip2, little_number, tag_of}
use Rattle.cap_spec.proofs.ProofNames.{word_bytes, rules}

-- the tag of a word
abbrev pub word_tag : ℕ → ℕ
word_tag w = tag_of (word_bytes w)

-- the lowest eight bytes of a number above whose lowest word is another number
eight_digits : (n w r : ℕ) → w < 18446744073709551616 → digits_l 256 (8 * suc n) (w + 18446744073709551616 * r) ≡ word_bytes w ++ digits_l 256 (8 * n) r
eight_digits n w r h =
    let size : 8 * suc n ≡ suc (suc (suc (suc (suc (suc (suc (suc (8 * n)))))))) = omega arith in
    search rules

-- the lanes of words, as bytes, are the bytes of the words
pub lanes_are_bytes : (ws : List ℕ) → Each1 (λ x. x < 18446744073709551616) ws →
    digits_l 256 (8 * length ws) (number_l 18446744073709551616 ws) ≡ flat_map word_bytes ws
lanes_are_bytes [] e = refl
lanes_are_bytes (w ∷ ws) e = eight_digits (length ws) w (number_l 18446744073709551616 ws) e.0 ∙ ap (λ bs. word_bytes w ++ bs) (lanes_are_bytes ws e.1)

-- the bits that mark the bytes that aren't zero are the tag
one_bit : (t : Bool) (m : ℕ) → cond (not t) 1 0 + 2 * m ≡ cond t 0 1 + 2 * m
one_bit x m = search rules

pub mask_is_tag : (bs : List ℕ) → mask_l (map (λ b. not (eqb b 0)) bs) ≡ tag_of bs
mask_is_tag [] = refl
mask_is_tag (b ∷ bs) = one_bit (eqb b 0) _ ∙ ap (λ t. (if b == 0 then 0 else 1) + 2 * t) (mask_is_tag bs)

-- the tag of a word's bytes and of those after it
tag_above : (w : ℕ) (bs : List ℕ) → tag_of (word_bytes w ++ bs) ≡ word_tag w + 256 * tag_of bs
tag_above w bs = omega arith

tags_of_bytes : (ws : List ℕ) → tag_of (flat_map word_bytes ws) ≡ number_l 256 (map word_tag ws)
tags_of_bytes [] = refl
tags_of_bytes (w ∷ ws) = tag_above w (flat_map word_bytes ws) ∙ ap (λ t. word_tag w + 256 * t) (tags_of_bytes ws)

-- a tag of eight bytes is a byte
pub tag_fits : (w : ℕ) → word_tag w < 256
tag_fits w = tag_below (word_bytes w)

tags_fit : (ws : List ℕ) → AllByRecursion (λ t. t < 256) (map word_tag ws)
tags_fit [] = tt
tags_fit (w ∷ ws) = (tag_fits w, tags_fit ws)

pub eight_number : (ts : List ℕ) → length ts ≡ 8 → number_l 256 ts ≡ little_number 8 ts
eight_number (a ∷ b ∷ c ∷ d ∷ e ∷ f ∷ g ∷ h ∷ []) l = refl
eight_number ts l = absurd (omega (arith, l))

pub tags_back : (ts : List ℕ) → AllByRecursion (λ t. t < 256) ts → length ts ≡ 8 → word_bytes (number_l 256 ts) ≡ ts
tags_back ts fit l = search (rules, bytes_back, eight_number)

-- whether a lane is a byte that isn't zero
abbrev differs : ℕ → ℕ → Bool
differs a b = not (eqb a b)

-- the bits that mark the bytes of eight words that aren't zero are, as a word, the tags of the words
marked_tags : (bs ws : List ℕ) → bs ≡ flat_map word_bytes ws → length ws ≡ 8 →
    word_bytes (mask_l (map (top 7) (zip2 (λ a b. cond (not (eqb a b)) 255 0) bs (replicate 64 0))) % 18446744073709551616) ≡ map word_tag ws
marked_tags bs ws e l =
    let long : length bs ≡ 64 = ap length e ∙ length_plain ws ∙ ap (λ n. 8 * n) l in
    let few : length (map word_tag ws) ≡ 8 = length-map ws word_tag ∙ l in
    ap word_bytes (bitmask_splat w8 differs bs 64 0 long (omega arith) ∙ mask_is_tag bs ∙ ap tag_of e ∙ tags_of_bytes ws)
    ∙ tags_back (map word_tag ws) (tags_fit ws) few

pub eight_tags : (ws : List ℕ) → Each1 (λ x. x < 18446744073709551616) ws → length ws ≡ 8 →
    word_bytes (mask_l (map (top 7) (zip2 (λ a b. cond (not (eqb a b)) 255 0) (digits_l 256 64 (number_l 18446744073709551616 ws)) (replicate 64 0)))
    % 18446744073709551616) ≡ map word_tag ws
eight_tags ws fit l =
    marked_tags (digits_l 256 64 (number_l 18446744073709551616 ws)) ws (search (rules, lanes_are_bytes)) l

-- eight tags more are written
pub eights_more : (ws out eight : List ℕ) (i : ℕ) → i + 8 ≤ length ws → length out ≡ length ws → eight ≡ map word_tag (chunk i 8 ws) →
    take i out ≡ map word_tag (take i ws) →
    take (i + 8) (put_chunk i out eight) ≡ map word_tag (take (i + 8) ws)
eights_more ws out eight i capacity l e before =
    let few : length eight ≡ 8 = ap length e ∙ length-map (chunk i 8 ws) word_tag ∙ length-chunk i 8 ws capacity in
    search (rules, take_more_put_chunk, map-append, take-add)

-- the lanes of one word, and of zeros above it
pub lanes_of_one : (w : ℕ) → w < 18446744073709551616 → digits_l 256 16 (number_l 18446744073709551616 (w ∷ 0 ∷ [])) ≡ word_bytes w ++ replicate 8 0
lanes_of_one w h = lanes_are_bytes (w ∷ 0 ∷ []) (h, (omega arith, tt))

-- the bits that mark the bytes of one word that aren't zero are its tag
pub tag_by_lanes : (w : ℕ) (bs : List ℕ) → bs ≡ word_bytes w ++ replicate 8 0 →
    mask_l (map (top 7) (zip2 (λ a b. cond (not (eqb a b)) 255 0) bs (replicate 16 0))) % 18446744073709551616 ≡ word_tag w
tag_by_lanes w bs e = search (rules, bitmask_splat w8 differs bs 16 0 (ap length e) (omega arith), mask_is_tag bs, tag_above w (replicate 8 0))
