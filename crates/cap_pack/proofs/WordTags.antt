-- The tag of a word without vectors, by the bytes of a number.
use Rattle.std.proofs.Common.{bit_and, bit_or}
use Rattle.std.proofs.lemmas.Nat.{and_block, and_mask, le_or_l, le_or_r, or_block, or_lt}
use Rattle.std.proofs.Common.{add-zero}
use Rattle.cap_spec.proofs.ProofNames.{cases_lt, common_steps, drop, get_or-drop, get_or-take, lt-leb, take, false≢true, get_or, eq-eqb, ⊎_elim, leb, marks, not, subst, true, zero_bytes, ◌-◌, ◌||◌, ◌≤◌}
use Rattle.cap_spec.proofs.ProofNames.{AllByRecursion, Bool, List, [], ap, arith, cond, eqb, eqb-true, if◌then◌else◌, length, map, number_l, refl, rules, suc, sym, tag_of, word_bytes, zero, ℕ}
use Rattle.cap_spec.proofs.ProofNames.{ap₂, ◌%◌, ◌*◌, ◌+◌, ◌/◌, ◌<◌, ◌==◌, ◌^◌, ◌∙◌, ◌∷◌, ◌≡◌}
use Rattle.cap_spec.proofs.Bytes.WordBytes.{bytes_fit}
use Rattle.cap_pack.proofs.Moving.{number_of}
use Rattle.cap_pack.proofs.Runs.{bits_after, each_below, low_bit, one_below, run, run_more, zeros_and_marks}
use Rattle.cap_pack.proofs.Shuffles.{present, present_count}
use Rattle.cap_pack.proofs.Tags.{tag_fits}

-- the highest bit of a byte that isn't zero
abbrev high : ℕ → ℕ
high b = if b == 0 then 0 else 128

-- computed for each byte
high_by_bits : (b : ℕ) → b < 256 → bit_and (bit_or (b % 128 + 127) b) 128 ≡ high b
unfolding each_below
high_by_bits b h = eqb-true _ _ (one_below (λ b. eqb (bit_and (bit_or (b % 128 + 127) b) 128) (high b)) 256 refl b h)

below_high : (b : ℕ) → bit_and b 127 ≡ b % 128
below_high b = and_mask b 7

-- of all bytes at once
turn : (x n : ℕ) → x + 256 * n ≡ n * 256 + x
turn x n = omega arith

or_fits : (b : ℕ) → b < 256 → bit_or (b % 128 + 127) b < 256
or_fits b h = or_lt 8 (b % 128 + 127) b (omega arith) h

pub high_bits : (bs : List ℕ) → AllByRecursion (λ b. b < 256) bs →
    bit_and (bit_or (bit_and (number_l 256 bs) (number_l 256 (map (λ b. 127) bs)) + number_l 256 (map (λ b. 127) bs)) (number_l 256 bs)) (number_l 256 (map (λ b. 128) bs))
    ≡ number_l 256 (map high bs)
high_bits [] a = refl
high_bits (b ∷ bs) a =
    let n = number_l 256 bs in
    let l = number_l 256 (map (λ b. 127) bs) in
    let m = number_l 256 (map (λ b. 128) bs) in
    let low : bit_and (b + 256 * n) (127 + 256 * l) ≡ bit_and n l * 256 + b % 128 =
    ap₂ bit_and (turn b n) (turn 127 l) ∙ and_block 8 n l b 127 a.0 (omega arith) ∙ ap (λ x. bit_and n l * 256 + x) (below_high b) in
    let added : bit_and (b + 256 * n) (127 + 256 * l) + (127 + 256 * l) ≡ (bit_and n l + l) * 256 + (b % 128 + 127) = omega (arith, low) in
    let either : bit_or (bit_and (b + 256 * n) (127 + 256 * l) + (127 + 256 * l)) (b + 256 * n) ≡ bit_or (bit_and n l + l) n * 256 + bit_or (b % 128 + 127) b =
    ap₂ bit_or added (turn b n) ∙ or_block 8 (bit_and n l + l) n (b % 128 + 127) b (omega arith) a.0 in
    let both : bit_and (bit_or (bit_and (b + 256 * n) (127 + 256 * l) + (127 + 256 * l)) (b + 256 * n)) (128 + 256 * m)
    ≡ bit_and (bit_or (bit_and n l + l) n) m * 256 + bit_and (bit_or (b % 128 + 127) b) 128 =
    ap₂ bit_and either (turn 128 m) ∙ and_block 8 (bit_or (bit_and n l + l) n) m (bit_or (b % 128 + 127) b) 128 (or_fits b a.0) (omega arith) in
    both ∙ omega (arith, high_bits bs a.1, high_by_bits b a.0)

-- a bit for each byte, eight bits apart
abbrev pub bit : ℕ → ℕ
bit b = if b == 0 then 0 else 1

one_high : (z : Bool) (m n : ℕ) → m ≡ 128 * n → cond z 0 128 + 256 * m ≡ 128 * (cond z 0 1 + 256 * n)
one_high y m n e = search rules

high_parts : (bs : List ℕ) → number_l 256 (map high bs) ≡ 128 * number_l 256 (map bit bs)
high_parts [] = refl
high_parts (b ∷ bs) = one_high (b == 0) _ _ (high_parts bs)

-- the bits of a tag, eight bits apart
abbrev bits_of : ℕ → ℕ → List ℕ
bits_of zero t = []
bits_of (suc n) t = t % 2 ∷ bits_of n (t / 2)

tag_bits : (bs : List ℕ) → map bit bs ≡ bits_of (length bs) (tag_of bs)
tag_bits [] = refl
tag_bits (b ∷ bs) = search (rules, low_bit, bits_after, tag_bits bs)

-- a product brings them together: computed for each tag
gathers : (t : ℕ) → t < 256 → number_l 256 (bits_of 8 t) * 72624976668147840 % 2 ^ 64 / 2 ^ 56 ≡ t
unfolding each_below
gathers t h = eqb-true _ _ (one_below (λ t. eqb (number_l 256 (bits_of 8 t) * 72624976668147840 % 2 ^ 64 / 2 ^ 56) t) 256 refl t h)

pub present_by_bits : (w : ℕ) → w < 18446744073709551616 →
    bit_and (bit_or (bit_and w 9187201950435737471 + 9187201950435737471) w) 9259542123273814144 ≡ 128 * number_l 256 (map bit (word_bytes w))
present_by_bits w h =
    let bs = word_bytes w in
    ap (λ x. bit_and (bit_or (bit_and x 9187201950435737471 + 9187201950435737471) x) 9259542123273814144) (sym (number_of w h))
    ∙ high_bits bs (bytes_fit 0 8 w) ∙ high_parts bs

pub word_tag_by_bits : (w m : ℕ) → m ≡ 128 * number_l 256 (map bit (word_bytes w)) → m / 2 ^ 7 * 72624976668147840 % 2 ^ 64 / 2 ^ 56 ≡ tag_of (word_bytes w)
word_tag_by_bits w m marked =
    let bs = word_bytes w in
    let shifted : m / 2 ^ 7 ≡ number_l 256 (map bit bs) = omega (arith, marked) in
    ap (λ x. x * 72624976668147840 % 2 ^ 64 / 2 ^ 56) (shifted ∙ ap (number_l 256) (tag_bits bs)) ∙ gathers (tag_of bs) (tag_fits w)

-- another product adds them: computed for each tag
adds : (t : ℕ) → t < 256 → number_l 256 (bits_of 8 t) * 72340172838076673 % 2 ^ 64 / 2 ^ 56 ≡ marks 8 t
unfolding each_below
adds t h = eqb-true _ _ (one_below (λ t. eqb (number_l 256 (bits_of 8 t) * 72340172838076673 % 2 ^ 64 / 2 ^ 56) (marks 8 t)) 256 refl t h)

pub count_by_bits : (w m : ℕ) → m ≡ 128 * number_l 256 (map bit (word_bytes w)) →
    m / 2 ^ 7 * 72340172838076673 % 2 ^ 64 / 2 ^ 56 ≡ length (present (word_bytes w))
count_by_bits w m marked =
    let bs = word_bytes w in
    let shifted : m / 2 ^ 7 ≡ number_l 256 (map bit bs) = omega (arith, marked) in
    ap (λ x. x * 72340172838076673 % 2 ^ 64 / 2 ^ 56) (shifted ∙ ap (number_l 256) (tag_bits bs)) ∙ adds (tag_of bs) (tag_fits w) ∙ present_count bs

-- a bit for each byte that is zero
abbrev gap_bits : ℕ → ℕ
gap_bits t = 9259542123273814144 - 128 * number_l 256 (bits_of 8 t)

-- two of them have a bit in common with the number before: computed for each tag
implied : (s t : Bool) → (not s || t) ≡ true → s ≡ true → t ≡ true
implied x u e f = search (rules, false≢true)

few_gaps : (t : ℕ) → t < 256 → bit_and (gap_bits t) ((gap_bits t + 18446744073709551615) % 2 ^ 64) ≡ 0 → 8 - marks 8 t ≤ 1
unfolding each_below
few_gaps t h e =
    let one : leb (8 - marks 8 t) 1 ≡ true =
    implied (eqb (bit_and (gap_bits t) ((gap_bits t + 18446744073709551615) % 2 ^ 64)) 0) (leb (8 - marks 8 t) 1)
    (one_below (λ n. not (eqb (bit_and (gap_bits n) ((gap_bits n + 18446744073709551615) % 2 ^ 64)) 0) || leb (8 - marks 8 n) 1) 256 refl t h) (eq-eqb _ 0 e) in
    ⊎_elim (λ more. absurd (false≢true (sym (lt-leb (8 - marks 8 t) 1 more) ∙ one))) (λ few. few) (cases_lt 1 (8 - marks 8 t))

pub few_by_gaps : (w m a : ℕ) → m ≡ 128 * number_l 256 (map bit (word_bytes w)) → a ≡ 9259542123273814144 - m → bit_and a ((a + 18446744073709551615) % 2 ^ 64) ≡ 0
    → zero_bytes w ≤ 1
few_by_gaps w m a e f g =
    let t = tag_of (word_bytes w) in
    let gaps : a ≡ gap_bits t = f ∙ ap (λ n. 9259542123273814144 - n) (e ∙ ap (λ l. 128 * number_l 256 l) (tag_bits (word_bytes w))) in
    omega (arith, few_gaps t (tag_fits w) (subst (λ n. bit_and n ((n + 18446744073709551615) % 2 ^ 64) ≡ 0) gaps g), zeros_and_marks (word_bytes w))

or_zero : (a b : ℕ) → bit_or a b ≡ 0 → (a ≡ 0) × (b ≡ 0)
or_zero a b e = (omega (arith, le_or_l a b, e), omega (arith, le_or_r a b, e))

-- one more word of which all bits are among those so far
pub words_zero : (xs : List ℕ) (bits new i : ℕ) → i < length xs → (bits ≡ 0 → (k : ℕ) → k < i → get_or xs k 0 ≡ 0) → new ≡ bit_or bits (get_or xs i 0) → new ≡ 0
    → (k : ℕ) → k < i + 1 → get_or xs k 0 ≡ 0
words_zero xs bits new i l before e z k h =
    let both = or_zero bits (get_or xs i 0) (sym e ∙ z) in
    ⊎_elim (λ less. before both.0 k less) (λ last. let is : i ≡ k = omega arith in ap (λ n. get_or xs n 0) (sym is) ∙ both.1) (cases_lt k i)

pub words_full : (xs : List ℕ) (gaps one new i : ℕ) → i < length xs → (gaps ≡ 0 → (k : ℕ) → k < i → zero_bytes (get_or xs k 0) ≤ 1) → (one ≡ 0 → zero_bytes (get_or xs i 0) ≤ 1)
    → new ≡ bit_or gaps one → new ≡ 0 → (k : ℕ) → k < i + 1 → zero_bytes (get_or xs k 0) ≤ 1
words_full xs gaps one new i l before last e z k h =
    let both = or_zero gaps one (sym e ∙ z) in
    ⊎_elim (λ less. before both.0 k less) (λ at. let is : i ≡ k = omega arith in subst (λ n. zero_bytes (get_or xs n 0) ≤ 1) is (last both.1)) (cases_lt k i)

moved : (i k : ℕ) → i + 1 + k ≡ i + suc k
moved i k = omega arith

-- as many words more pass a test
pub run_by : (p : ℕ → Bool) (n i : ℕ) (xs : List ℕ) → i + n ≤ length xs → ((k : ℕ) → k < n → p (get_or xs (i + k) 0) ≡ true) → i ≤ run p xs → i + n ≤ run p xs
run_by p zero i xs h t r = omega arith
run_by p (suc n) i xs h t r =
    let next = run_more p i xs (omega arith) (ap (λ k. p (get_or xs k 0)) (sym (add-zero i)) ∙ t 0 (omega arith)) r in
    let rest = run_by p n (i + 1) xs (omega arith) (λ k l. ap (λ j. p (get_or xs j 0)) (moved i k) ∙ t (suc k) (omega arith)) next in
    omega arith

-- an element of eight is one of all
pub is_of_eight : (xs : List ℕ) (i k : ℕ) → k < 8 → i + 8 ≤ length xs → k < length (take (i + 8 - i) (drop i xs))
is_of_eight xs i k h l = grind (arith, common_steps)

pub of_eight : (xs : List ℕ) (i k : ℕ) → k < 8 → i + 8 ≤ length xs → get_or (take (i + 8 - i) (drop i xs)) k 0 ≡ get_or xs (i + k) 0
of_eight xs i k h l = grind (arith, common_steps, get_or-take, get_or-drop)
