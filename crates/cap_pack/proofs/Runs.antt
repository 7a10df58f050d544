-- How long the front of a list is whose elements pass a test.
use Rattle.std.proofs.Common.{bit_and}
use Rattle.std.proofs.lemmas.List.Sums.{prefix_len-le-length, prefix_len_passes, prefix_len_stops}
use Rattle.std.proofs.lemmas.Simd.{first_set_mask_l, map-map, zip2_of_maps, zip2_splat}
use Rattle.std.specs.Int.Count.{count_trailing_zeros}
use Rattle.cap_spec.proofs.ProofNames.{Bool, List, [], ap, arith, cond, eqb, false, get_or, if◌then◌else◌, leb, length}
use Rattle.cap_spec.proofs.ProofNames.{length-take-le, map, not, refl, replicate, suc, sym, take, take_while, true, w64}
use Rattle.cap_spec.proofs.ProofNames.{w8, zero, ℕ, ⊎_elim, ◌%◌, ◌&&◌, ◌*◌, ◌+◌, ◌-◌, ◌/◌, ◌<◌, ◌==◌, ◌∙◌, ◌∷◌, ◌≡◌, ◌≤◌}
use Rattle.cap_spec.proofs.ProofNames.{and_parts, cases_lt, false≢true, length-map, bitmask_splat, prefix_len, chunk}
use Rattle.cap_spec.proofs.ProofNames.{mask_l, top, zip2, full_run, tag_of, zero_bytes, zero_run, zeros_in, word_bytes}
use Rattle.cap_spec.proofs.ProofNames.{marks, common_steps, rules}
use Rattle.cap_pack.proofs.Tags.{tag_fits, word_tag}

-- its length
abbrev pub run : (ℕ → Bool) → List ℕ → ℕ
run p xs = length (take_while p xs)

pub run_is : (p : ℕ → Bool) (xs : List ℕ) → run p xs ≡ prefix_len p xs
run_is p xs = length-take-le (prefix_len p xs) xs (prefix_len-le-length p xs)

-- one element in front
both_more : (t : Bool) (m n : ℕ) → m ≤ n → cond t (1 + m) 0 ≤ cond t (1 + n) 0
both_more x m n h = search rules

one_more : (t : Bool) (i m n : ℕ) → suc i ≤ cond t (1 + n) 0 → (i ≤ n → i + m ≤ n) → suc i + m ≤ cond t (1 + n) 0
one_more x i m n h k = search rules

-- a beginning of the list has no longer front
within_chunk : (p : ℕ → Bool) (n : ℕ) (xs : List ℕ) → prefix_len p (take n xs) ≤ prefix_len p xs
within_chunk p (suc n) (x ∷ xs) = both_more (p x) _ _ (within_chunk p n xs)
within_chunk p n xs = omega arith

goes_on : (p : ℕ → Bool) (i n : ℕ) (xs : List ℕ) → i ≤ prefix_len p xs → i + prefix_len p (chunk i n xs) ≤ prefix_len p xs
goes_on p (suc i) n (x ∷ xs) h = one_more (p x) i _ _ h (goes_on p i n xs)
goes_on p i n xs h = search (rules, within_chunk)

-- where each of the first i elements passes, so does each of those that pass after them
pub run_goes_on : (p : ℕ → Bool) (i n : ℕ) (xs : List ℕ) → i ≤ run p xs → i + run p (chunk i n xs) ≤ run p xs
run_goes_on p i n xs h = omega (arith, goes_on p i n xs (omega (arith, run_is p xs)), run_is p xs, run_is p (chunk i n xs))

-- one more passes
pub run_more : (p : ℕ → Bool) (i : ℕ) (xs : List ℕ) → i < length xs → p (get_or xs i 0) ≡ true → i ≤ run p xs → i + 1 ≤ run p xs
run_more p i xs l t h = grind (arith, common_steps, run_is, prefix_len_stops, false≢true)

-- none more passes
pub run_ends : (p : ℕ → Bool) (i : ℕ) (xs : List ℕ) → (i < length xs → p (get_or xs i 0) ≡ false) → i ≤ run p xs → i ≡ run p xs
run_ends p i xs l h = search (rules, run_is, false≢true, prefix_len-le-length, prefix_len_passes)

-- of tests that say the same
same_prefix : (p q : ℕ → Bool) → ((x : ℕ) → p x ≡ q x) → (xs : List ℕ) → prefix_len p xs ≡ prefix_len q xs
same_prefix p q same [] = refl
same_prefix p q same (x ∷ xs) = ap (λ t. cond t (1 + prefix_len p xs) 0) (same x) ∙ ap (λ n. cond (q x) (1 + n) 0) (same_prefix p q same xs)

prefix_of_map : (p : ℕ → Bool) (f : ℕ → ℕ) (xs : List ℕ) → prefix_len p (map f xs) ≡ prefix_len (λ x. p (f x)) xs
prefix_of_map p f [] = refl
prefix_of_map p f (x ∷ xs) = ap (λ n. cond (p (f x)) (1 + n) 0) (prefix_of_map p f xs)

-- the first of eight lanes that is marked, where the marks are those of the elements that don't pass
pub first_marked : (p q : ℕ → Bool) (f : ℕ → ℕ) → ((x : ℕ) → not (q (f x)) ≡ p x) → (xs lanes : List ℕ) → lanes ≡ map f xs → length xs ≡ 8 → (m : ℕ) →
    m ≡ mask_l (map q lanes) →
    (if m == 0 then 8 else count_trailing_zeros 64 m) ≡ run p xs
first_marked p q f same xs lanes e l m mask = search (rules, length-map, first_set_mask_l, prefix_of_map, same_prefix, run_is)

-- whether two lanes differ
abbrev differs : ℕ → ℕ → Bool
differs a b = not (eqb a b)

twice_not : (t : Bool) → not (not t) ≡ t
twice_not x = search rules

map_same : (xs : List ℕ) → xs ≡ map (λ x. x) xs
map_same [] = refl
map_same (x ∷ xs) = ap (λ l. x ∷ l) (map_same xs)

-- of eight words, by which of them differ from zero
pub zeros_by_lanes : (ws : List ℕ) → length ws ≡ 8 → (m : ℕ) →
    m ≡ mask_l (map (top 63) (zip2 (λ a b. cond (not (eqb a b)) 18446744073709551615 0) ws (replicate 8 0))) % 18446744073709551616 →
    (if m == 0 then 8 else count_trailing_zeros 64 m) ≡ zero_run ws
zeros_by_lanes ws l m e =
    first_marked (λ x. x == 0) (λ x. not (eqb x 0)) (λ x. x) (λ x. twice_not (x == 0)) ws ws (map_same ws) l m (e
    ∙ bitmask_splat w64 differs ws 8 0 l (omega arith))

-- the bits that a tag leaves clear, and those of them above the lowest
abbrev clear : ℕ → ℕ
clear t = 255 - t

abbrev above : ℕ → ℕ
above t = bit_and (clear t) ((clear t + 255) % 256)

-- none is above the lowest where at most one is clear: computed for each tag
same_test : Bool → Bool → Bool
same_test true t = t
same_test false t = not t

same_from_test : (s t : Bool) → same_test s t ≡ true → s ≡ t
unfolding same_test
same_from_test x u e = search (rules, false≢true)

unfoldable pub each_below : (ℕ → Bool) → ℕ → Bool
each_below p zero = true
each_below p (suc n) = p n && each_below p n

pub one_below : (p : ℕ → Bool) (n : ℕ) → each_below p n ≡ true → (t : ℕ) → t < n → p t ≡ true
unfolding each_below
one_below p zero e t l = absurd (omega arith)
one_below p (suc n) e t l =
    ⊎_elim (λ less. one_below p n (and_parts (p n) (each_below p n) e).1 t less)
    (λ last. let is : n ≡ t = omega arith in ap p (sym is) ∙ (and_parts (p n) (each_below p n) e).0)
    (cases_lt t n)

few_clear : (t : ℕ) → t < 256 → eqb (above t) 0 ≡ leb (8 - marks 8 t) 1
unfolding same_test each_below
few_clear t l = same_from_test _ _ (one_below (λ t. same_test (eqb (above t) 0) (leb (8 - marks 8 t) 1)) 256 refl t l)

-- a byte is zero, or its bit is set
pub low_bit : (z : Bool) (t : ℕ) → (cond z 0 1 + 2 * t) % 2 ≡ cond z 0 1
low_bit x t = search rules

pub bits_after : (z : Bool) (t : ℕ) → (cond z 0 1 + 2 * t) / 2 ≡ t
bits_after x t = search rules

zero_or_set : (z : Bool) → cond z 1 0 + cond z 0 1 ≡ 1
zero_or_set x = search rules

pub zeros_and_marks : (bs : List ℕ) → zeros_in bs + marks (length bs) (tag_of bs) ≡ length bs
zeros_and_marks [] = refl
zeros_and_marks (b ∷ bs) = search (rules, low_bit, bits_after, zero_or_set, zeros_and_marks bs)

-- the tag of a word says whether it has at most one zero byte
full_by_tag : (w : ℕ) → not (not (eqb (above (word_tag w)) 0)) ≡ leb (zero_bytes w) 1
full_by_tag w =
    let all : 8 - marks 8 (word_tag w) ≡ zero_bytes w = omega (arith, zeros_and_marks (word_bytes w)) in
    twice_not (eqb (above (word_tag w)) 0) ∙ few_clear (word_tag w) (tag_fits w) ∙ ap (λ n. leb n 1) all

-- the same of eight words, by their tags
pub fulls_by_lanes : (ws ts : List ℕ) → length ws ≡ 8 → ts ≡ map word_tag ws → (m : ℕ) →
    m ≡ mask_l (map (top 7) (zip2 (λ a b. cond (not (eqb a b)) 255 0)
    (zip2 bit_and (map (λ t. 255 - t) ts) (zip2 (λ a b. (a + (256 - b)) % 256) (map (λ t. 255 - t) ts) (replicate 8 1))) (replicate 8 0))) %
    18446744073709551616 →
    (if m == 0 then 8 else count_trailing_zeros 64 m) ≡ full_run ws
fulls_by_lanes ws ts l e m f =
    let many : length ts ≡ 8 = ap length e ∙ length-map ws word_tag ∙ l in
    let clears : length (map clear ts) ≡ 8 = length-map ts clear ∙ many in
    let less : zip2 (λ a b. (a + (256 - b)) % 256) (map clear ts) (replicate 8 1) ≡ map (λ t. (clear t + 255) % 256) ts =
    zip2_splat (λ a b. (a + (256 - b)) % 256) (map clear ts) 8 1 clears ∙ map-map (λ a. (a + 255) % 256) clear ts in
    let lanes = zip2 bit_and (map clear ts) (zip2 (λ a b. (a + (256 - b)) % 256) (map clear ts) (replicate 8 1)) in
    let all : lanes ≡ map above ts = zip2_of_maps bit_and clear (λ t. (clear t + 255) % 256) ts refl less in
    let words : lanes ≡ map (λ w. above (word_tag w)) ws = all ∙ ap (map above) e ∙ map-map above word_tag ws in
    let eight : length lanes ≡ 8 = ap length all ∙ length-map ts above ∙ many in
    first_marked (λ x. leb (zero_bytes x) 1) (λ x. not (eqb x 0)) (λ w. above (word_tag w)) full_by_tag ws lanes words l m (f
    ∙ bitmask_splat w8 differs lanes 8 0 eight (omega arith))
