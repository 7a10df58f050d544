-- Words of segments whose bytes are one after the other.
use Rattle.std.proofs.lemmas.List.Sums.{sum_by-take-le}
use Rattle.cap_spec.proofs.Bytes.Plain.{words_exact}
use Rattle.cap_spec.proofs.ProofNames.{All, List, Some, [], ap, arith, drop, drop-drop, get_or, get_or-take, length}
use Rattle.cap_spec.proofs.ProofNames.{length-drop, length-take-le, refl, slice_get, suc, sum, sym, take, zero}
use Rattle.cap_spec.proofs.ProofNames.{zero-add, ℕ, ◌*◌, ◌+◌, ◌-◌, ◌<◌, ◌^◌, ◌∙◌, ◌∷◌, ◌≡◌, ◌≤◌, drop-take, get_or_default}
use Rattle.cap_spec.proofs.ProofNames.{take_more, sum_by-append, sum_by-cons, little_from, little_number, IsMessage}
use Rattle.cap_spec.proofs.ProofNames.{plain_words, rules}
use Rattle.cap_frame.specs.Bytes.{cut, starts_of}

-- whole words are eight bytes each
pub words_inside : (bs : List ℕ) → 8 * length (plain_words bs) ≤ length bs
words_inside bs = omega (arith, words_exact bs)

-- and all whole ones are there
pub words_all : (bs : List ℕ) → length bs < 8 * length (plain_words bs) + 8
words_all bs = omega (arith, words_exact bs)

-- word w is encoded from byte 8 w on
pub word_at : (bs : List ℕ) (w : ℕ) → w < length (plain_words bs) → slice_get (plain_words bs) w ≡ Some (little_number 8 (drop (8 * w) bs))
word_at (a ∷ b ∷ c ∷ d ∷ e ∷ f ∷ g ∷ h ∷ rest) (suc w) l =
    let t = word_at rest w (omega arith) in
    let k : 8 * suc w ≡ suc (suc (suc (suc (suc (suc (suc (suc (8 * w)))))))) = omega arith in
    t ∙ ap (λ n. Some (little_number 8 (drop n (a ∷ b ∷ c ∷ d ∷ e ∷ f ∷ g ∷ h ∷ rest)))) (sym k)
word_at bs w l = search rules

-- a number is in its own bytes, whatever is after them
pub number_take : (i n m : ℕ) (xs : List ℕ) → i + n ≤ m → little_from i n (take m xs) ≡ little_from i n xs
number_take i zero m xs h = refl
number_take i (suc n) m xs h = search (rules, get_or-take, number_take (suc i) n m xs (omega arith))

-- the eight bytes from a place on, and the number in them
pub eight_in : (bs : List ℕ) (at : ℕ) → at + 8 ≤ length bs → 8 ≤ length (take (at + 8 - at) (drop at bs))
eight_in bs at h =
    let e : at + 8 - at ≡ 8 = omega arith in
    rw e (omega (arith, length-take-le 8 (drop at bs) (omega (arith, length-drop at bs, h))))

pub number_in : (bs : List ℕ) (at : ℕ) → little_number 8 (take (at + 8 - at) (drop at bs)) ≡ little_number 8 (drop at bs)
number_in bs at =
    let e : at + 8 - at ≡ 8 = omega arith in
    ap (λ n. little_number 8 (take n (drop at bs))) e ∙ number_take 0 8 8 (drop at bs) (omega arith)

-- where segment s starts
pub start_is : (at : ℕ) (ns : List ℕ) (s : ℕ) → s < length ns → get_or (starts_of at ns) s 0 ≡ at + sum (take s ns)
start_is at [] s l = absurd (omega arith)
start_is at (n ∷ ns) zero l = let e : at ≡ at + 0 = omega arith in e
start_is at (n ∷ ns) (suc s) l = search (rules, sum_by-cons, start_is (at + n) ns s (omega arith))

pub starts_length : (at : ℕ) (ns : List ℕ) → length (starts_of at ns) ≡ length ns
starts_length at [] = refl
starts_length at (n ∷ ns) = ap suc (starts_length (at + n) ns)

pub cut_length : (ns bs : List ℕ) → length (cut ns bs) ≡ length ns
cut_length [] bs = refl
cut_length (n ∷ ns) bs = ap suc (cut_length ns (drop (8 * n) bs))

-- segment s of bytes that are cut
pub cut_at : (ns bs : List ℕ) (s : ℕ) → s < length ns → get_or (cut ns bs) s [] ≡ plain_words (take (8 * get_or ns s 0) (drop (8 * sum (take s ns)) bs))
cut_at [] bs s l = absurd (omega arith)
cut_at (n ∷ ns) bs zero l = refl
cut_at (n ∷ ns) bs (suc s) l = search (rules, sum_by-cons (λ x. x) n (take s ns), drop-drop (8 * sum (take s ns)) (8 * n) bs, cut_at ns (drop (8 * n) bs) s (omega arith))

-- the first numbers and the next one sum to no more than all
pub front_sum : (ns : List ℕ) (s : ℕ) → s < length ns → sum (take s ns) + get_or ns s 0 ≤ sum ns
front_sum ns s h = search (rules, take_more ns s 0 h, sum_by-append (λ x. x) (take s ns) (get_or ns s 0 ∷ []), zero-add (get_or ns s 0), sum_by-take-le (λ x. x) ns (s + 1))

-- how long it is
pub cut_words : (ns bs : List ℕ) (s : ℕ) → s < length ns → 8 * sum ns ≤ length bs → length (get_or (cut ns bs) s []) ≡ get_or ns s 0
cut_words ns bs s l h = search (rules, front_sum, length-drop, length-take-le, words_inside, words_all, cut_at)

-- its word w is encoded at the place that its start gives
pub cut_word : (ns bs : List ℕ) (s w : ℕ) → s < length ns → 8 * sum ns ≤ length bs → w < length (get_or (cut ns bs) s [])
    → slice_get (get_or (cut ns bs) s []) w ≡ Some (little_number 8 (drop (8 * (sum (take s ns) + w)) bs))
cut_word ns bs s w l h inside =
    let n = get_or ns s 0 in
    let at = 8 * sum (take s ns) in
    let part = take (8 * n) (drop at bs) in
    let e : length (get_or (cut ns bs) s []) ≡ n = cut_words ns bs s l h in
    let c : get_or (cut ns bs) s [] ≡ plain_words part = cut_at ns bs s l in
    let r = 8 * n - 8 * w in
    let q : 8 * n ≡ 8 * w + r = omega arith in
    let x : drop (8 * w) part ≡ take r (drop (8 * w) (drop at bs)) = ap (λ k. drop (8 * w) (take k (drop at bs))) q ∙ drop-take (8 * w) r (drop at bs) in
    let y : drop (8 * w) (drop at bs) ≡ drop (at + 8 * w) bs = drop-drop (8 * w) at bs in
    let z : at + 8 * w ≡ 8 * (sum (take s ns) + w) = omega arith in
    let v : little_number 8 (drop (8 * w) part) ≡ little_number 8 (drop (8 * (sum (take s ns) + w)) bs) =
    ap (little_number 8) x ∙ (number_take 0 8 r (drop (8 * w) (drop at bs)) (omega (q, e, inside, arith)) ∙ ap (little_number 8) (y ∙ ap (λ m. drop m bs) z)) in
    ap (λ xs. slice_get xs w) c ∙ (word_at part w (omega (ap length c, inside, arith)) ∙ ap (λ x. Some x) v)

-- each segment is short
cut_lengths : (ns bs : List ℕ) → sum ns ≤ 268435456 → 8 * sum ns ≤ length bs → All (λ segment. length segment < 2 ^ 32) (cut ns bs)
cut_lengths ns bs small inside s d l = search (rules, cut_length ns bs, cut_words ns bs s (omega (arith, cut_length ns bs)) inside, front_sum ns s (omega (arith, cut_length ns bs)), get_or_default (cut ns bs) s [] d l)

-- and so are several
pub cut_message : (ns bs : List ℕ) → 1 ≤ length ns → length ns ≤ 512 → sum ns ≤ 268435456 → 8 * sum ns ≤ length bs → IsMessage (cut ns bs)
cut_message ns bs some few small inside = search (rules, cut_length, cut_lengths)

-- where word w of segment s is, by the table of starts, and what it is
pub record PlaceFacts (ns starts bs : List ℕ) (s w : ℕ) : Type 0 where
  pub sums : get_or starts s 0 + w + 1 ≤ sum ns
  pub word : slice_get (get_or (cut ns bs) s []) w ≡ Some (little_number 8 (drop (8 * (get_or starts s 0 + w)) bs))

pub place_facts : (ns starts bs : List ℕ) (s w : ℕ) → starts ≡ starts_of 0 ns → 8 * sum ns ≤ length bs → s < length (cut ns bs)
    → w < length (get_or (cut ns bs) s []) → PlaceFacts ns starts bs s w
place_facts ns starts bs s w are inside exists within = search (rules, cut_length, start_is, cut_words, front_sum, cut_word)
