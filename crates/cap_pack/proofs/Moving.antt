-- Moves of bytes within a word, by the lists of its bytes.
use Rattle.std.proofs.Common.{add-zero, bit_and, zero-add}
use Rattle.std.proofs.lemmas.Nat.{and_block, and_comm, and_mask, mod-pow-add, pow-add}
use Rattle.std.proofs.Math.Nat.{mul_assoc}
use Rattle.cap_spec.proofs.ProofNames.{AllByRecursion, Bool, List, [], ap, arith, drop, eqb, false, if◌then◌else◌, length, number_l, refl, replicate, rules, suc, sym, take, true, zero, ℕ, zip2}
use Rattle.cap_spec.proofs.ProofNames.{IsTrue, and_parts, append-nil, filter, marks, not, spread, subst, tag_of, ap₂, cases_eq, common_steps, eqb-true, ne_eqb, ⊎_elim, get_or, cond, leb, length-map, little_number-reads_back, map, map-append, shr-shr, ◌%◌, ◌&&◌, ◌*◌, ◌++◌, ◌+◌, ◌-◌, ◌/◌, ◌<◌, ◌==◌, ◌^◌, ◌||◌, ◌∙◌, ◌∷◌, ◌≡◌, ◌≤◌}
use Rattle.cap_pack.proofs.Runs.{bits_after, low_bit}
use Rattle.cap_pack.proofs.Shuffles.{drop_next, none_picked, pick, picked, row_picked, same_from_test, spread_picked}
use Rattle.cap_pack.proofs.Tags.{eight_number, tags_back}
use Rattle.cap_pack.specs.Moves.{are_apart, is_mask, kept, left, lowered, moves_down, moves_up, one_place, places_down, places_up, raised, marked_at, same_list, squeezes, spreads}
use Rattle.cap_pack.specs.Places.{spread_row, squeeze_row}
use Rattle.cap_spec.specs.Plain.{word_bytes}
use Rattle.cap_spec.proofs.Bytes.WordBytes.{bytes_fit}

and_all : (x : ℕ) → x < 256 → bit_and x 255 ≡ x
and_all x h = omega (arith, and_mask x 8)

and_none : (x : ℕ) → bit_and x 0 ≡ 0
and_none x = and_comm x 0

-- a byte is kept whole or not at all
masked : (m x : ℕ) → (m == 0 || m == 255) ≡ true → x < 256 → bit_and x m ≡ (if m == 0 then 0 else x)
masked m x t h = grind (arith, common_steps, and_all, and_none)

swap : (x n : ℕ) → x + 256 * n ≡ n * 256 + x
swap x n = omega arith

pub and_masked : (ms xs : List ℕ) → is_mask ms ≡ true → AllByRecursion (λ b. b < 256) xs → AllByRecursion (λ b. b < 256) ms → length ms ≡ length xs →
    bit_and (number_l 256 xs) (number_l 256 ms) ≡ number_l 256 (kept 0 ms xs)
and_masked [] [] t a b l = refl
and_masked (m ∷ ms) (x ∷ xs) t a b l =
    let both = and_parts (m == 0 || m == 255) (is_mask ms) t in
    let blocks : bit_and (number_l 256 xs * 256 + x) (number_l 256 ms * 256 + m) ≡ bit_and (number_l 256 xs) (number_l 256 ms) * 256 + bit_and x m =
    and_block 8 (number_l 256 xs) (number_l 256 ms) x m a.0 b.0 in
    let byte = masked m x both.0 a.0 in
    let rest = and_masked ms xs both.1 a.1 b.1 (omega arith) in
    ap (λ n. bit_and n (m + 256 * number_l 256 ms)) (swap x (number_l 256 xs)) ∙ ap (λ n. bit_and (number_l 256 xs * 256 + x) n) (swap m (number_l 256 ms))
    ∙ blocks ∙ ap (λ n. bit_and (number_l 256 xs) (number_l 256 ms) * 256 + n) byte ∙ omega (arith, rest)
and_masked ms xs t a b l = absurd (omega arith)

-- what is kept and what is left are all
pub kept_and_left : (ms xs : List ℕ) → length ms ≡ length xs → number_l 256 (left 0 ms xs) + number_l 256 (kept 0 ms xs) ≡ number_l 256 xs
kept_and_left [] [] l = refl
kept_and_left (m ∷ ms) (x ∷ xs) l = grind (arith, common_steps, kept_and_left ms xs (omega arith))
kept_and_left ms xs l = absurd (omega arith)

-- bytes further down
lower_one : (ys : List ℕ) → AllByRecursion (λ b. b < 256) ys → number_l 256 ys / 256 ≡ number_l 256 (drop 1 ys)
lower_one [] a = refl
lower_one (y ∷ ys) a = omega arith

eight_more : (k : ℕ) → 8 * suc k ≡ 8 + 8 * k
eight_more k = omega arith

pub lower : (k : ℕ) (ys : List ℕ) → AllByRecursion (λ b. b < 256) ys → number_l 256 ys / 2 ^ (8 * k) ≡ number_l 256 (drop k ys)
lower zero ys a = omega arith
lower (suc k) [] a = search (rules, lower k [] tt)
lower (suc k) (y ∷ ys) a =
    ap (λ e. (y + 256 * number_l 256 ys) / 2 ^ e) (eight_more k) ∙ sym (shr-shr (y + 256 * number_l 256 ys) 8 (8 * k))
    ∙ ap (λ n. n / 2 ^ (8 * k)) (lower_one (y ∷ ys) a) ∙ lower k ys a.1

pub zeros_above : (xs : List ℕ) (k : ℕ) → number_l 256 (xs ++ replicate k 0) ≡ number_l 256 xs
zeros_above [] zero = refl
zeros_above [] (suc k) = omega (arith, zeros_above [] k)
zeros_above (x ∷ xs) k = ap (λ n. x + 256 * n) (zeros_above xs k)

-- the sum of bytes at the same places
pub summed : (xs ys : List ℕ) → length xs ≡ length ys → number_l 256 xs + number_l 256 ys ≡ number_l 256 (zip2 (λ a b. a + b) xs ys)
summed [] [] l = refl
summed (x ∷ xs) (y ∷ ys) l = omega (arith, summed xs ys (omega arith))
summed xs ys l = absurd (omega arith)

-- lengths
length_zip : (f : ℕ → ℕ → ℕ) (xs ys : List ℕ) → length xs ≡ length ys → length (zip2 f xs ys) ≡ length ys
length_zip f [] [] l = refl
length_zip f (x ∷ xs) (y ∷ ys) l = ap suc (length_zip f xs ys (omega arith))
length_zip f xs ys l = absurd (omega arith)

length_left : (none : ℕ) (ms xs : List ℕ) → length ms ≡ length xs → length (left none ms xs) ≡ length xs
length_left none ms xs l = length_zip (λ m x. if m == 0 then x else none) ms xs l

pub length_lowered : (k none : ℕ) (ms xs : List ℕ) → length ms ≡ length xs → k ≤ length xs → length (lowered k none ms xs) ≡ length xs
length_lowered k none ms xs l h = grind (arith, common_steps, length_zip)

-- bytes that are kept are bytes
chosen : (t : Bool) (x : ℕ) → x < 256 → (if t then 0 else x) < 256
chosen u x h = search rules

kept_fit : (ms xs : List ℕ) → AllByRecursion (λ b. b < 256) xs → AllByRecursion (λ b. b < 256) (kept 0 ms xs)
kept_fit [] xs a = tt
kept_fit (m ∷ ms) [] a = tt
kept_fit (m ∷ ms) (x ∷ xs) a = (chosen (m == 0) x a.0, kept_fit ms xs a.1)

-- the bytes after a move down
pub moved_down : (k : ℕ) (ms xs : List ℕ) → is_mask ms ≡ true → AllByRecursion (λ b. b < 256) xs → AllByRecursion (λ b. b < 256) ms → length ms ≡ length xs
    → k ≤ length xs
    → number_l 256 xs - bit_and (number_l 256 xs) (number_l 256 ms) + bit_and (number_l 256 xs) (number_l 256 ms) / 2 ^ (8 * k)
    ≡ number_l 256 (zip2 (λ a b. a + b) (left 0 ms xs) (lowered k 0 ms xs))
moved_down k ms xs t a b l h =
    let moving = and_masked ms xs t a b l in
    let parts = kept_and_left ms xs l in
    let moved = lower k (kept 0 ms xs) (kept_fit ms xs a) in
    let above = zeros_above (drop k (kept 0 ms xs)) k in
    let long : length (left 0 ms xs) ≡ length (lowered k 0 ms xs) = length_left 0 ms xs l ∙ sym (length_lowered k 0 ms xs l h) in
    ap (λ n. number_l 256 xs - n + n / 2 ^ (8 * k)) moving
    ∙ omega (arith, parts, moved, above) ∙ summed (left 0 ms xs) (lowered k 0 ms xs) long

-- a word by its bytes
pub number_of : (w : ℕ) → w < 18446744073709551616 → number_l 256 (word_bytes w) ≡ w
number_of w h = eight_number (word_bytes w) refl ∙ little_number-reads_back 8 w [] (omega arith)

pub kept_word : (w mask : ℕ) → w < 18446744073709551616 → mask < 18446744073709551616 → IsTrue (is_mask (word_bytes mask)) →
    bit_and w mask ≡ number_l 256 (kept 0 (word_bytes mask) (word_bytes w))
kept_word w mask h g t = ap₂ bit_and (sym (number_of w h)) (sym (number_of mask g)) ∙ and_masked (word_bytes mask) (word_bytes w) t (bytes_fit 0 8 w) (bytes_fit 0 8 mask) refl

pub moved_word_down : (k w mask : ℕ) → w < 18446744073709551616 → mask < 18446744073709551616 → IsTrue (is_mask (word_bytes mask)) → k ≤ 7
    → w - bit_and w mask + bit_and w mask / 2 ^ (8 * k)
    ≡ number_l 256 (zip2 (λ a b. a + b) (left 0 (word_bytes mask) (word_bytes w)) (lowered k 0 (word_bytes mask) (word_bytes w)))
moved_word_down k w mask h g t l =
    let moved = moved_down k (word_bytes mask) (word_bytes w) t (bytes_fit 0 8 w) (bytes_fit 0 8 mask) refl (omega arith) in
    ap₂ (λ x m. x - bit_and x m + bit_and x m / 2 ^ (8 * k)) (sym (number_of w h)) (sym (number_of mask g)) ∙ moved

eight_above : (k : ℕ) → 8 * suc k ≡ 8 * k + 8
eight_above k = omega arith

turned : (y p : ℕ) → y * (p * 256) ≡ 0 + 256 * (y * p)
turned y p = sym (mul_assoc y p 256) ∙ omega arith

sub_none : (n : ℕ) → n ≡ n - 0
sub_none n = omega arith

sub_both : (n k : ℕ) → n - k ≡ suc n - suc k
sub_both n k = omega arith

once : (y : ℕ) → y * 2 ^ (8 * 0) ≡ y
once y = omega arith

length_raised : (k none : ℕ) (ms xs : List ℕ) → length ms ≡ 8 → length xs ≡ 8 → k ≤ 7 → length (raised k none ms xs) ≡ 8
length_raised k none ms xs e l h = grind (arith, common_steps, length_zip)

-- bytes further up, of which those past the end are lost
below_one : (y r n : ℕ) → y < 256 → (y + 256 * r) % 2 ^ (8 * suc n) ≡ y + 256 * (r % 2 ^ (8 * n))
below_one y r n h =
    let split = mod-pow-add (y + 256 * r) (8 * n) 8 in
    let high : (y + 256 * r) / 256 ≡ r = omega arith in
    ap (λ e. (y + 256 * r) % 2 ^ e) (eight_above n) ∙ split ∙ ap (λ q. q % 2 ^ (8 * n) * 256 + (y + 256 * r) % 256) high ∙ omega arith

low_bytes : (n : ℕ) (ys : List ℕ) → AllByRecursion (λ b. b < 256) ys → n ≤ length ys → number_l 256 ys % 2 ^ (8 * n) ≡ number_l 256 (take n ys)
low_bytes zero ys a l = omega arith
low_bytes (suc n) [] a l = absurd (omega arith)
low_bytes (suc n) (y ∷ ys) a l = below_one y (number_l 256 ys) n a.0 ∙ ap (λ r. y + 256 * r) (low_bytes n ys a.1 (omega arith))

raised_more : (y k : ℕ) → y * 2 ^ (8 * suc k) ≡ 0 + 256 * (y * 2 ^ (8 * k))
raised_more y k = ap (λ e. y * 2 ^ e) (eight_above k) ∙ ap (λ p. y * p) (pow-add 2 (8 * k) 8) ∙ turned y (2 ^ (8 * k))

raise : (n k : ℕ) (ys : List ℕ) → AllByRecursion (λ b. b < 256) ys → k ≤ n → n ≤ length ys →
    (number_l 256 ys * 2 ^ (8 * k)) % 2 ^ (8 * n) ≡ number_l 256 (replicate k 0 ++ take (n - k) ys)
raise n zero ys a h l = ap (λ x. x % 2 ^ (8 * n)) (once (number_l 256 ys)) ∙ low_bytes n ys a l ∙ ap (λ i. number_l 256 (take i ys)) (sub_none n)
raise zero (suc k) ys a h l = absurd (omega arith)
raise (suc n) (suc k) ys a h l =
    ap (λ x. x % 2 ^ (8 * suc n)) (raised_more (number_l 256 ys) k) ∙ below_one 0 (number_l 256 ys * 2 ^ (8 * k)) n (omega arith)
    ∙ ap (λ r. 0 + 256 * r) (raise n k ys a (omega arith) (omega arith))
    ∙ ap (λ i. 0 + 256 * number_l 256 (replicate k 0 ++ take i ys)) (sub_both n k)

pub moved_word_up : (k w mask : ℕ) → w < 18446744073709551616 → mask < 18446744073709551616 → IsTrue (is_mask (word_bytes mask)) → k ≤ 7
    → (w - bit_and w mask + (bit_and w mask * 2 ^ (8 * k)) % 2 ^ 64) % 2 ^ 64
    ≡ number_l 256 (zip2 (λ a b. a + b) (left 0 (word_bytes mask) (word_bytes w)) (raised k 0 (word_bytes mask) (word_bytes w))) % 2 ^ 64
moved_word_up k w mask h g t l =
    let ms = word_bytes mask in
    let xs = word_bytes w in
    let moving = and_masked ms xs t (bytes_fit 0 8 w) (bytes_fit 0 8 mask) refl in
    let parts = kept_and_left ms xs refl in
    let moved = raise 8 k (kept 0 ms xs) (kept_fit ms xs (bytes_fit 0 8 w)) (omega arith) (omega arith) in
    ap₂ (λ x m. (x - bit_and x m + (bit_and x m * 2 ^ (8 * k)) % 2 ^ 64) % 2 ^ 64) (sym (number_of w h)) (sym (number_of mask g))
    ∙ ap (λ n. (number_l 256 xs - n + (n * 2 ^ (8 * k)) % 2 ^ 64) % 2 ^ 64) moving
    ∙ ap (λ n. n % 2 ^ 64) (omega (arith, parts, moved, summed (left 0 ms xs) (raised k 0 ms xs) (omega (arith, length_raised k 0 ms xs refl refl l))))

-- places and the bytes there

-- what a place picks is a byte
picked_fits : (bs : List ℕ) → AllByRecursion (λ b. b < 256) bs → (j : ℕ) → get_or bs j 0 < 256
picked_fits [] a j = omega arith
picked_fits (b ∷ bs) a zero = a.0
picked_fits (b ∷ bs) a (suc j) = picked_fits bs a.1 j

one_fits : (t : Bool) (x : ℕ) → x < 256 → cond t 0 x < 256
one_fits u x h = search rules

pub picks_fit : (bs : List ℕ) → AllByRecursion (λ b. b < 256) bs → (ps : List ℕ) → AllByRecursion (λ b. b < 256) (map (pick bs) ps)
picks_fit bs a [] = tt
picks_fit bs a (p ∷ ps) = (one_fits (leb 128 p) (get_or bs p 0) (picked_fits bs a p), picks_fit bs a ps)

kept_by : (bs : List ℕ) (t : Bool) (p : ℕ) → (if t then 0 else pick bs p) ≡ pick bs (if t then 128 else p)
kept_by bs u p = search rules

one_kept : (bs : List ℕ) (m p : ℕ) → (if m == 0 then 0 else pick bs p) ≡ pick bs (if m == 0 then 128 else p)
one_kept bs m p = kept_by bs (m == 0) p

picks_kept : (bs ms ps : List ℕ) → kept 0 ms (map (pick bs) ps) ≡ map (pick bs) (kept 128 ms ps)
picks_kept bs [] ps = refl
picks_kept bs (m ∷ ms) [] = refl
picks_kept bs (m ∷ ms) (p ∷ ps) = search (rules, one_kept, picks_kept bs ms ps)

left_by : (bs : List ℕ) (t : Bool) (p : ℕ) → (if t then pick bs p else 0) ≡ pick bs (if t then p else 128)
left_by bs u p = search rules

one_left : (bs : List ℕ) (m p : ℕ) → (if m == 0 then pick bs p else 0) ≡ pick bs (if m == 0 then p else 128)
one_left bs m p = left_by bs (m == 0) p

picks_left : (bs ms ps : List ℕ) → left 0 ms (map (pick bs) ps) ≡ map (pick bs) (left 128 ms ps)
picks_left bs [] ps = refl
picks_left bs (m ∷ ms) [] = refl
picks_left bs (m ∷ ms) (p ∷ ps) = search (rules, one_left, picks_left bs ms ps)

drop_picks : (f : ℕ → ℕ) (k : ℕ) (ps : List ℕ) → drop k (map f ps) ≡ map f (drop k ps)
drop_picks f zero ps = refl
drop_picks f (suc k) [] = refl
drop_picks f (suc k) (p ∷ ps) = drop_picks f k ps

take_picks : (f : ℕ → ℕ) (k : ℕ) (ps : List ℕ) → take k (map f ps) ≡ map f (take k ps)
take_picks f zero ps = refl
take_picks f (suc k) [] = refl
take_picks f (suc k) (p ∷ ps) = ap (λ l. f p ∷ l) (take_picks f k ps)

picks_lowered : (bs ms ps : List ℕ) (k : ℕ) → lowered k 0 ms (map (pick bs) ps) ≡ map (pick bs) (lowered k 128 ms ps)
picks_lowered bs ms ps k =
    ap (λ l. drop k l ++ replicate k 0) (picks_kept bs ms ps) ∙ ap (λ l. l ++ replicate k 0) (drop_picks (pick bs) k (kept 128 ms ps))
    ∙ ap (λ l. map (pick bs) (drop k (kept 128 ms ps)) ++ l) (sym (none_picked bs k))
    ∙ sym (map-append (pick bs) (drop k (kept 128 ms ps)) (replicate k 128))

picks_raised : (bs ms ps : List ℕ) (k : ℕ) → raised k 0 ms (map (pick bs) ps) ≡ map (pick bs) (raised k 128 ms ps)
picks_raised bs ms ps k =
    ap (λ l. replicate k 0 ++ take (8 - k) l) (picks_kept bs ms ps) ∙ ap (λ l. replicate k 0 ++ l) (take_picks (pick bs) (8 - k) (kept 128 ms ps))
    ∙ ap (λ l. l ++ map (pick bs) (take (8 - k) (kept 128 ms ps))) (sym (none_picked bs k))
    ∙ sym (map-append (pick bs) (replicate k 128) (take (8 - k) (kept 128 ms ps)))

-- where not both are places, the sum is the byte of the one that is
one_sum : (bs : List ℕ) (p q : ℕ) → (p == 128 || q == 128) ≡ true → pick bs p + pick bs q ≡ pick bs (one_place p q)
one_sum bs p q t = ⊎_elim
    (λ none. ap (λ n. pick bs n + pick bs q) none ∙ zero-add (pick bs q) ∙ sym (ap (λ n. pick bs (one_place n q)) none))
    (λ some. let clear : (p == 128) ≡ false = ne_eqb p 128 some in
    let other : q ≡ 128 = eqb-true q 128 (ap (λ b. b || q == 128) (sym clear) ∙ t) in
    ap (λ n. pick bs p + pick bs n) other ∙ add-zero (pick bs p) ∙ sym (ap (λ b. pick bs (if b then q else p)) clear))
    (cases_eq p 128)

sums : (bs ps qs : List ℕ) → are_apart ps qs ≡ true → zip2 (λ a b. a + b) (map (pick bs) ps) (map (pick bs) qs) ≡ map (pick bs) (zip2 one_place ps qs)
sums bs [] qs t = refl
sums bs (p ∷ ps) [] t = refl
sums bs (p ∷ ps) (q ∷ qs) t =
    let both = and_parts (p == 128 || q == 128) (are_apart ps qs) t in
    ap (λ n. n ∷ zip2 (λ a b. a + b) (map (pick bs) ps) (map (pick bs) qs)) (one_sum bs p q both.0)
    ∙ ap (λ l. pick bs (one_place p q) ∷ l) (sums bs ps qs both.1)

-- a move down moves the places of the bytes
pub placed_down : (bs ps : List ℕ) (k mask word result : ℕ) → AllByRecursion (λ b. b < 256) bs → length ps ≡ 8 → word ≡ number_l 256 (map (pick bs) ps)
    → moves_down k mask ps ≡ true
    → result ≡ number_l 256 (zip2 (λ a b. a + b) (left 0 (word_bytes mask) (word_bytes word)) (lowered k 0 (word_bytes mask) (word_bytes word)))
    → result ≡ number_l 256 (map (pick bs) (places_down k mask ps))
placed_down bs ps k mask word result a l w t r =
    let apart = (and_parts (is_mask (word_bytes mask)) (are_apart (left 128 (word_bytes mask) ps) (lowered k 128 (word_bytes mask) ps)) t).1 in
    let bytes : word_bytes word ≡ map (pick bs) ps = ap word_bytes w ∙ tags_back (map (pick bs) ps) (picks_fit bs a ps) (length-map ps (pick bs) ∙ l) in
    r ∙ ap (λ xs. number_l 256 (zip2 (λ a b. a + b) (left 0 (word_bytes mask) xs) (lowered k 0 (word_bytes mask) xs))) bytes
    ∙ ap (λ xs. number_l 256 (zip2 (λ a b. a + b) xs (lowered k 0 (word_bytes mask) (map (pick bs) ps)))) (picks_left bs (word_bytes mask) ps)
    ∙ ap (λ xs. number_l 256 (zip2 (λ a b. a + b) (map (pick bs) (left 128 (word_bytes mask) ps)) xs)) (picks_lowered bs (word_bytes mask) ps k)
    ∙ ap (number_l 256) (sums bs (left 128 (word_bytes mask) ps) (lowered k 128 (word_bytes mask) ps) apart)

pub length_down : (ps : List ℕ) (k mask : ℕ) → k ≤ 7 → length ps ≡ 8 → length (places_down k mask ps) ≡ 8
length_down ps k mask h l =
    let low = length_lowered k 128 (word_bytes mask) ps (sym l) (omega arith) in
    length_zip one_place (left 128 (word_bytes mask) ps) (lowered k 128 (word_bytes mask) ps) (length_left 128 (word_bytes mask) ps (sym l) ∙ sym low) ∙ low ∙ l

pub length_up : (ps : List ℕ) (k mask : ℕ) → k ≤ 7 → length ps ≡ 8 → length (places_up k mask ps) ≡ 8
length_up ps k mask h l =
    let high = length_raised k 128 (word_bytes mask) ps refl l h in
    length_zip one_place (left 128 (word_bytes mask) ps) (raised k 128 (word_bytes mask) ps) (length_left 128 (word_bytes mask) ps (sym l) ∙ l ∙ sym high) ∙ high

eight_whole : (xs : List ℕ) → AllByRecursion (λ b. b < 256) xs → length xs ≡ 8 → number_l 256 xs % 2 ^ 64 ≡ number_l 256 xs
eight_whole xs a l = low_bytes 8 xs a (omega arith) ∙ ap (number_l 256) (grind (arith, common_steps))

pub placed_up : (bs ps : List ℕ) (k mask word result : ℕ) → k ≤ 7 → AllByRecursion (λ b. b < 256) bs → length ps ≡ 8 → word ≡ number_l 256 (map (pick bs) ps)
    → moves_up k mask ps ≡ true
    → result ≡ number_l 256 (zip2 (λ a b. a + b) (left 0 (word_bytes mask) (word_bytes word)) (raised k 0 (word_bytes mask) (word_bytes word))) % 2 ^ 64
    → result ≡ number_l 256 (map (pick bs) (places_up k mask ps))
placed_up bs ps k mask word result small a l w t r =
    let apart = (and_parts (is_mask (word_bytes mask)) (are_apart (left 128 (word_bytes mask) ps) (raised k 128 (word_bytes mask) ps)) t).1 in
    let bytes : word_bytes word ≡ map (pick bs) ps = ap word_bytes w ∙ tags_back (map (pick bs) ps) (picks_fit bs a ps) (length-map ps (pick bs) ∙ l) in
    let after = places_up k mask ps in
    r ∙ ap (λ xs. number_l 256 (zip2 (λ a b. a + b) (left 0 (word_bytes mask) xs) (raised k 0 (word_bytes mask) xs)) % 2 ^ 64) bytes
    ∙ ap (λ xs. number_l 256 (zip2 (λ a b. a + b) xs (raised k 0 (word_bytes mask) (map (pick bs) ps))) % 2 ^ 64) (picks_left bs (word_bytes mask) ps)
    ∙ ap (λ xs. number_l 256 (zip2 (λ a b. a + b) (map (pick bs) (left 128 (word_bytes mask) ps)) xs) % 2 ^ 64) (picks_raised bs (word_bytes mask) ps k)
    ∙ ap (λ xs. number_l 256 xs % 2 ^ 64) (sums bs (left 128 (word_bytes mask) ps) (raised k 128 (word_bytes mask) ps) apart)
    ∙ eight_whole (map (pick bs) after) (picks_fit bs a after) (length-map after (pick bs) ∙ length_up ps k mask small l)

-- the bytes of a word are at the places that its tag marks, and the others are zero
one_marked : (z : Bool) (xs : List ℕ) (k b : ℕ) → pick xs k ≡ b → (z ≡ true → b ≡ 0) → pick xs (cond (eqb (cond z 0 1) 0) 128 k) ≡ b
one_marked u xs k b e h = search rules

marked_first : (z : Bool) (n t k : ℕ) → marked_at (suc n) (cond z 0 1 + 2 * t) k ≡ cond (eqb (cond z 0 1) 0) 128 k ∷ marked_at n t (k + 1)
marked_first z n t k = search (rules, low_bit, bits_after)

marked_bytes : (bs xs ys : List ℕ) (k : ℕ) → drop k xs ≡ bs ++ ys → k + length bs ≤ 128 → map (pick xs) (marked_at (length bs) (tag_of bs) k) ≡ bs
marked_bytes [] xs ys k e h = refl
marked_bytes (b ∷ bs) xs ys k e h =
    let byte : pick xs k ≡ b = picked xs k (omega arith) ∙ ap (λ l. get_or l 0 0) e in
    ap (map (pick xs)) (marked_first (b == 0) (length bs) (tag_of bs) k)
    ∙ ap (λ n. n ∷ map (pick xs) (marked_at (length bs) (tag_of bs) (k + 1))) (one_marked (b == 0) xs k b byte (eqb-true b 0))
    ∙ ap (λ l. b ∷ l) (marked_bytes bs xs ys (k + 1) (drop_next k xs ∙ ap (drop 1) e) (omega arith))

pub squeezed_by_moves : (word tag one two four : ℕ) (masks : List ℕ) → word < 18446744073709551616 → tag ≡ tag_of (word_bytes word) → squeezes tag masks ≡ true
    → one ≡ number_l 256 (zip2 (λ a b. a + b) (left 0 (word_bytes (get_or masks 0 0)) (word_bytes word)) (lowered 1 0 (word_bytes (get_or masks 0 0)) (word_bytes word)))
    → two ≡ number_l 256 (zip2 (λ a b. a + b) (left 0 (word_bytes (get_or masks 1 0)) (word_bytes one)) (lowered 2 0 (word_bytes (get_or masks 1 0)) (word_bytes one)))
    → four ≡ number_l 256 (zip2 (λ a b. a + b) (left 0 (word_bytes (get_or masks 2 0)) (word_bytes two)) (lowered 4 0 (word_bytes (get_or masks 2 0)) (word_bytes two)))
    → word_bytes four ≡ filter (λ b. not (b == 0)) (word_bytes word) ++ replicate (8 - marks 8 tag) 0
squeezed_by_moves word tag one two four masks h t s e f g =
    let bs = word_bytes word in
    let fit : AllByRecursion (λ b. b < 256) bs = bytes_fit 0 8 word in
    let a = get_or masks 0 0 in
    let b = get_or masks 1 0 in
    let c = get_or masks 2 0 in
    let p = marked_at 8 tag 0 in
    let q = places_down 1 a p in
    let r = places_down 2 b q in
    let z = places_down 4 c r in
    let first = and_parts (moves_down 1 a p) (moves_down 2 b q && (moves_down 4 c r && same_list z (squeeze_row tag))) s in
    let second = and_parts (moves_down 2 b q) (moves_down 4 c r && same_list z (squeeze_row tag)) first.1 in
    let third = and_parts (moves_down 4 c r) (same_list z (squeeze_row tag)) second.1 in
    let start : word ≡ number_l 256 (map (pick bs) p) =
    sym (number_of word h) ∙ ap (number_l 256) (sym (marked_bytes bs bs [] 0 (sym (append-nil bs)) (omega arith)) ∙ ap (λ n. map (pick bs) (marked_at 8 n 0)) (sym t)) in
    let lq : length q ≡ 8 = length_down p 1 a (omega arith) refl in
    let lr : length r ≡ 8 = length_down q 2 b (omega arith) lq in
    let lz : length z ≡ 8 = length_down r 4 c (omega arith) lr in
    let once = placed_down bs p 1 a word one fit refl start first.0 e in
    let twice = placed_down bs q 2 b one two fit lq once second.0 f in
    let last = placed_down bs r 4 c two four fit lr twice third.0 g in
    ap word_bytes last ∙ tags_back (map (pick bs) z) (picks_fit bs fit z) (length-map z (pick bs) ∙ lz)
    ∙ ap (map (pick bs)) (same_from_test z (squeeze_row tag) third.1) ∙ row_picked bs bs [] tag refl (sym (append-nil bs)) t

-- the masks of a row are masks
pub masks_squeeze : (tag : ℕ) (masks : List ℕ) → squeezes tag masks ≡ true → (is_mask (word_bytes (get_or masks 1 0)) ≡ true) × (is_mask (word_bytes (get_or masks 2 0)) ≡ true)
masks_squeeze tag masks s =
    let a = get_or masks 0 0 in
    let b = get_or masks 1 0 in
    let c = get_or masks 2 0 in
    let p = marked_at 8 tag 0 in
    let q = places_down 1 a p in
    let r = places_down 2 b q in
    let z = same_list (places_down 4 c r) (squeeze_row tag) in
    let rest = (and_parts (moves_down 1 a p) (moves_down 2 b q && (moves_down 4 c r && z)) s).1 in
    let second = and_parts (moves_down 2 b q) (moves_down 4 c r && z) rest in
    let third = and_parts (moves_down 4 c r) z second.1 in
    ((and_parts (is_mask (word_bytes b)) _ second.0).0, (and_parts (is_mask (word_bytes c)) _ third.0).0)

-- eight bytes are those at the places 0 to 7
eight_picked : (bs : List ℕ) → length bs ≡ 8 → bs ≡ map (pick bs) (0 ∷ 1 ∷ 2 ∷ 3 ∷ 4 ∷ 5 ∷ 6 ∷ 7 ∷ [])
eight_picked (a ∷ b ∷ c ∷ d ∷ e ∷ f ∷ g ∷ h ∷ []) l = refl
eight_picked bs l = absurd (omega arith)

pub scattered_by_moves : (bs : List ℕ) (tag word front four two one : ℕ) (masks : List ℕ)
    → word_bytes word ≡ bs → front ≡ number_l 256 (kept 0 (word_bytes (get_or masks 0 0)) (word_bytes word)) → spreads tag masks ≡ true
    → four ≡ number_l 256 (zip2 (λ a b. a + b) (left 0 (word_bytes (get_or masks 1 0)) (word_bytes front))
    (raised 4 0 (word_bytes (get_or masks 1 0)) (word_bytes front))) % 2 ^ 64
    → two ≡ number_l 256 (zip2 (λ a b. a + b) (left 0 (word_bytes (get_or masks 2 0)) (word_bytes four)) (raised 2 0 (word_bytes (get_or masks 2 0)) (word_bytes four))) % 2 ^ 64
    → one ≡ number_l 256 (zip2 (λ a b. a + b) (left 0 (word_bytes (get_or masks 3 0)) (word_bytes two)) (raised 1 0 (word_bytes (get_or masks 3 0)) (word_bytes two))) % 2 ^ 64
    → one ≡ spread 8 tag bs
scattered_by_moves bs tag word front four two one masks back h s e f g =
    let fit : AllByRecursion (λ b. b < 256) bs = subst (λ xs. AllByRecursion (λ b. b < 256) xs) back (bytes_fit 0 8 word) in
    let m = get_or masks 0 0 in
    let a = get_or masks 1 0 in
    let b = get_or masks 2 0 in
    let c = get_or masks 3 0 in
    let p = kept 128 (word_bytes m) (0 ∷ 1 ∷ 2 ∷ 3 ∷ 4 ∷ 5 ∷ 6 ∷ 7 ∷ []) in
    let q = places_up 4 a p in
    let r = places_up 2 b q in
    let z = places_up 1 c r in
    let zeroth = and_parts (is_mask (word_bytes m)) (moves_up 4 a p && (moves_up 2 b q && (moves_up 1 c r && same_list z (spread_row tag)))) s in
    let first = and_parts (moves_up 4 a p) (moves_up 2 b q && (moves_up 1 c r && same_list z (spread_row tag))) zeroth.1 in
    let second = and_parts (moves_up 2 b q) (moves_up 1 c r && same_list z (spread_row tag)) first.1 in
    let third = and_parts (moves_up 1 c r) (same_list z (spread_row tag)) second.1 in
    let l : length bs ≡ 8 = ap length (sym back) in
    let start : front ≡ number_l 256 (map (pick bs) p) =
    h ∙ ap (λ xs. number_l 256 (kept 0 (word_bytes m) xs)) (back ∙ eight_picked bs l)
    ∙ ap (number_l 256) (picks_kept bs (word_bytes m) (0 ∷ 1 ∷ 2 ∷ 3 ∷ 4 ∷ 5 ∷ 6 ∷ 7 ∷ [])) in
    let lq : length q ≡ 8 = length_up p 4 a (omega arith) refl in
    let lr : length r ≡ 8 = length_up q 2 b (omega arith) lq in
    let after_four = placed_up bs p 4 a front four (omega arith) fit refl start first.0 e in
    let after_two = placed_up bs q 2 b four two (omega arith) fit lq after_four second.0 f in
    let after_one = placed_up bs r 1 c two one (omega arith) fit lr after_two third.0 g in
    after_one ∙ ap (λ ps. number_l 256 (map (pick bs) ps)) (same_from_test z (spread_row tag) third.1) ∙ spread_picked 8 tag 0 bs (omega arith)

pub masks_spread : (tag : ℕ) (masks : List ℕ) → spreads tag masks ≡ true
    → (is_mask (word_bytes (get_or masks 1 0)) ≡ true) × (is_mask (word_bytes (get_or masks 2 0)) ≡ true) × (is_mask (word_bytes (get_or masks 3 0)) ≡ true)
masks_spread tag masks s =
    let m = get_or masks 0 0 in
    let a = get_or masks 1 0 in
    let b = get_or masks 2 0 in
    let c = get_or masks 3 0 in
    let p = kept 128 (word_bytes m) (0 ∷ 1 ∷ 2 ∷ 3 ∷ 4 ∷ 5 ∷ 6 ∷ 7 ∷ []) in
    let q = places_up 4 a p in
    let r = places_up 2 b q in
    let z = same_list (places_up 1 c r) (spread_row tag) in
    let rest = (and_parts (is_mask (word_bytes m)) (moves_up 4 a p && (moves_up 2 b q && (moves_up 1 c r && z))) s).1 in
    let first = and_parts (moves_up 4 a p) (moves_up 2 b q && (moves_up 1 c r && z)) rest in
    let second = and_parts (moves_up 2 b q) (moves_up 1 c r && z) first.1 in
    let third = and_parts (moves_up 1 c r) z second.1 in
    ((and_parts (is_mask (word_bytes a)) _ first.0).0, (and_parts (is_mask (word_bytes b)) _ second.0).0, (and_parts (is_mask (word_bytes c)) _ third.0).0)
