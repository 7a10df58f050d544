-- The group before words that are in bytes, and what is written of it.
use Rattle.cap_spec.proofs.Lemmas.{all_drop, length_plain, words_exact, front-le}
use Rattle.cap_spec.proofs.Packed.Packing.{group_size-marked, nonzero_word, pack_text-group, zero_run-append}
use Rattle.cap_spec.proofs.ProofNames.{List, [], ap, append-nil, append_assoc, arith, drop, drop-drop, filter, get_or, get_or_append_left}
use Rattle.cap_spec.proofs.ProofNames.{length, length-append, length-drop, length-set, length-take-le, min, nat_le, ne_eqb}
use Rattle.cap_spec.proofs.ProofNames.{not, refl, set, suc, sym, take, take-append-drop, take_at, zero, ℕ, ◌%◌, ◌*◌, ◌++◌}
use Rattle.cap_spec.proofs.ProofNames.{◌+◌, ◌-◌, ◌/◌, ◌<◌, ◌==◌, ◌∙◌, ◌∷◌, ◌≡◌, ◌≢◌, ◌≤◌, drop_all, take_rest}
use Rattle.cap_spec.proofs.ProofNames.{drop-put_mid, take-put_mid, AllByRecursion, little_number, put_mid, full_run}
use Rattle.cap_spec.proofs.ProofNames.{group_size, pack_text, tag_of, zero_bytes, zero_run, plain_text}
use Rattle.cap_spec.proofs.ProofNames.{plain_words, word_bytes, common_steps, rules}
use Rattle.cap_words.proofs.Filling.{plain_join}
use Rattle.cap_words.proofs.WholeWords.{words_text}
use Rattle.cap_pack.specs.GroupTexts.{front_text}
use Rattle.cap_pack.proofs.FullWords.{full_word, word_tag, zero_word}
use Rattle.cap_pack.proofs.PuttingEach.{word_first}
use Rattle.cap_pack.proofs.Written.{take-first, take-pushed}

-- the word at a place
pub word_placed : (bs : List ℕ) (k : ℕ) → 8 * k + 8 ≤ length bs → little_number 8 (drop (8 * k) bs) ≡ get_or (plain_words bs) k 0
word_placed bs zero l = sym (ap (λ ws. get_or ws 0 0) (word_first bs (omega (arith, l))))
word_placed bs (suc k) l =
    let same : 8 + 8 * k ≡ 8 * suc k = omega arith in
    let moved : drop (8 * suc k) bs ≡ drop (8 * k) (drop 8 bs) = sym (drop-drop (8 * k) 8 bs ∙ ap (λ n. drop n bs) same) in
    search (rules, length-drop, word_first, word_placed (drop 8 bs) k (omega (arith, l, length-drop 8 bs)))

-- the first word, and those after it
pub words_first : (bs : List ℕ) → 8 ≤ length bs → plain_words bs ≡ get_or (plain_words bs) 0 0 ∷ plain_words (drop 8 bs)
words_first bs l = search (rules, word_first)

-- words in front, and those after them
pub words_parted : (bs : List ℕ) (n : ℕ) → n % 8 ≡ 0 → n ≤ length bs → plain_words bs ≡ plain_words (take n bs) ++ plain_words (drop n bs)
words_parted bs n e l =
    ap plain_words (sym (take-append-drop n bs)) ∙ plain_join (take n bs) (drop n bs) (omega (arith, e, length-take-le n bs l))

-- a word of those in front
word_in_front : (bs : List ℕ) (m k : ℕ) → k < m → 8 * m ≤ length bs → get_or (plain_words (take (8 * m) bs)) k 0 ≡ get_or (plain_words bs) k 0
word_in_front bs m k h l =
    let few : length (plain_words (take (8 * m) bs)) ≡ m = omega (arith, words_exact (take (8 * m) bs), length-take-le (8 * m) bs l) in
    sym (ap (λ ws. get_or ws k 0) (words_parted bs (8 * m) (omega arith) l)
    ∙ get_or_append_left (plain_words (take (8 * m) bs)) (plain_words (drop (8 * m) bs)) 0 k (omega (arith, h, few)))

-- of m words in front, those that are left after k
pub left_length : (bs rest : List ℕ) (m k : ℕ) → 8 * m ≤ length bs → rest ≡ drop (8 * k) (take (8 * m) bs) → length rest ≡ 8 * m - 8 * k
left_length bs rest m k l e = omega (arith, ap length e, length-drop (8 * k) (take (8 * m) bs), length-take-le (8 * m) bs l)

pub left_first : (bs rest : List ℕ) (m k : ℕ) → 8 * m ≤ length bs → rest ≡ drop (8 * k) (take (8 * m) bs) → 8 ≤ length rest →
    get_or (plain_words rest) 0 0 ≡ get_or (plain_words bs) k 0
left_first bs rest m k l e h =
    let front = take (8 * m) bs in
    let less : k < m = omega (arith, h, left_length bs rest m k l e) in
    sym (word_placed rest 0 (omega (arith, h))) ∙ ap (little_number 8) e ∙ word_placed front k (omega (arith, less, length-take-le (8 * m) bs l))
    ∙ word_in_front bs m k less l

pub left_after : (front rest : List ℕ) (k : ℕ) → rest ≡ drop (8 * k) front → take (length rest - 8) (drop 8 rest) ≡ drop (8 * (k + 1)) front
left_after front rest k e =
    let next : 8 * k + 8 ≡ 8 * (k + 1) = omega arith in
    take_rest rest 8 ∙ ap (drop 8) e ∙ drop-drop 8 (8 * k) front ∙ ap (λ n. drop n front) next

-- a word and k others in front begin with the same word
pub front_first : (bs : List ℕ) (k : ℕ) → 8 + 8 * k ≤ length bs →
    plain_words (take (8 + 8 * k) bs) ≡ get_or (plain_words bs) 0 0 ∷ plain_words (drop 8 (take (8 + 8 * k) bs))
front_first bs k l = search (rules, words_first (take (8 + 8 * k) bs) (omega (arith, length-take-le (8 + 8 * k) bs l)), length-take-le (8 + 8 * k) bs l, words_parted bs (8 + 8 * k) (omega arith) l)

pub front_after : (bs : List ℕ) (k : ℕ) → 8 + 8 * k ≤ length bs → length (plain_words (drop 8 (take (8 + 8 * k) bs))) ≡ k
front_after bs k l = search (rules, words_exact (drop 8 (take (8 + 8 * k) bs)), length-drop 8 (take (8 + 8 * k) bs), length-take-le (8 + 8 * k) bs l)

-- how many words the group in front takes, by its first word
pub size_zero : (w : ℕ) (ws : List ℕ) → w ≡ 0 → group_size (w ∷ ws) ≡ 1 + min 255 (zero_run ws)
size_zero w ws e = search (rules, zero_run-append)

pub size_full : (w : ℕ) (ws : List ℕ) → zero_bytes w ≡ 0 → group_size (w ∷ ws) ≡ 1 + min 255 (full_run ws)
size_full w ws z = rw (ne_eqb w 0 (nonzero_word w (omega (arith, z))), z) refl

-- its text, where it takes all of them
pub text_zero : (w : ℕ) (ws : List ℕ) → w ≡ 0 → front_text (w ∷ ws) ≡ 0 ∷ length ws ∷ []
text_zero w ws e = ap (λ (v : ℕ). front_text (v ∷ ws)) e

pub text_full : (w : ℕ) (ws : List ℕ) → zero_bytes w ≡ 0 → front_text (w ∷ ws) ≡ 255 ∷ (word_bytes w ++ length ws ∷ plain_text ws)
text_full w ws z = search rules

pub text_marked : (w : ℕ) (ws : List ℕ) → w ≢ 0 → zero_bytes w ≢ 0 → front_text (w ∷ ws) ≡ tag_of (word_bytes w) ∷ filter (λ b. not (b == 0)) (word_bytes w)
text_marked w ws h z = search (rules, ne_eqb)

-- the group in front: a word and k others, and the length of the text
pub record IsFront (bs : List ℕ) (k encoded : ℕ) : Type 0 where
  pub size : 8 + 8 * k ≡ 8 * group_size (plain_words bs)
  pub most : k ≤ 255
  pub within : 8 + 8 * k ≤ length bs
  pub text : encoded ≡ length (front_text (plain_words (take (8 + 8 * k) bs)))

-- this many words after the first are there
run_within : (bs rest : List ℕ) (k n : ℕ) → 8 ≤ length bs → rest ≡ drop 8 bs → k ≡ min 255 n → n ≤ length (plain_words rest) → 8 + 8 * k ≤ length bs
run_within bs rest k n l e m f = omega (arith, l, ap length e, length-drop 8 bs, words_exact rest, m, f)

pub zeros_front : (bs rest : List ℕ) (k : ℕ) → 8 ≤ length bs → rest ≡ drop 8 bs → get_or (plain_words bs) 0 0 ≡ 0 →
    k ≡ min 255 (zero_run (plain_words rest)) → IsFront bs k 2
zeros_front bs rest k l e z m =
    let run = zero_run (plain_words rest) in
    let within : 8 + 8 * k ≤ length bs = run_within bs rest k run l e m (front-le (λ x. x == 0) (plain_words rest)) in
    search (rules, words_first, size_zero, front_first, text_zero)

pub full_front : (bs rest : List ℕ) (k : ℕ) → 8 ≤ length bs → rest ≡ drop 8 bs → zero_bytes (get_or (plain_words bs) 0 0) ≡ 0 →
    k ≡ min 255 (full_run (plain_words rest)) → IsFront bs k (10 + 8 * k)
full_front bs rest k l e z m =
    let run = full_run (plain_words rest) in
    let within : 8 + 8 * k ≤ length bs = run_within bs rest k run l e m (front-le (λ x. nat_le (zero_bytes x) 1) (plain_words rest)) in
    search (rules, words_first, size_full, front_first, text_full, length_plain, front_after)

pub marked_front : (bs : List ℕ) (n : ℕ) → 8 ≤ length bs → get_or (plain_words bs) 0 0 ≢ 0 → zero_bytes (get_or (plain_words bs) 0 0) ≢ 0 →
    n ≡ length (filter (λ b. not (b == 0)) (word_bytes (get_or (plain_words bs) 0 0))) → IsFront bs 0 (1 + n)
marked_front bs n l h z e = search (rules, words_first, group_size-marked, front_first, text_marked)

-- the text of words is that of the group in front, and then that of the words after it
apart : (ws front rest : List ℕ) → ws ≡ front ++ rest → length front ≡ group_size ws → 0 < length front → pack_text ws ≡ front_text front ++ pack_text rest
apart ws front rest e l p = search (rules, pack_text-group)

pub pack_step : (bs front : List ℕ) (at n : ℕ) → front ≡ drop at bs → n ≡ 8 * group_size (plain_words front) → 0 < n → n ≤ length front →
    pack_text (plain_words (drop at bs)) ≡ front_text (plain_words (take n front)) ++ pack_text (plain_words (drop (at + n) bs))
pack_step bs front at n e size some within =
    let parted = words_parted front n (omega (arith, size)) within in
    search (rules, words_exact, length-take-le, drop-drop, apart)

-- a part of a list that is written over
pub put_is : (a k : ℕ) (xs ys : List ℕ) → a + k ≤ length xs → length ys ≡ k → put_mid a k xs ys ≡ (take a xs ++ ys) ++ drop (a + k) xs
put_is a k xs ys h l = grind (arith, common_steps, take-append-drop, take-put_mid, drop-put_mid)

pub put_length : (a k : ℕ) (xs ys : List ℕ) → a + k ≤ length xs → length ys ≡ k → length (put_mid a k xs ys) ≡ length xs
put_length a k xs ys h l = search (rules, put_is, length-append, length-take-le, length-drop)

-- one that ends where the list ends
pub put_end : (a k : ℕ) (xs ys : List ℕ) → a + k ≡ length xs → length ys ≡ k → put_mid a k xs ys ≡ take a xs ++ ys
put_end a k xs ys h l = search (rules, put_is, drop_all, append-nil)

-- the text of a run of zero words is written
two_set : (text : List ℕ) (a b : ℕ) → length text ≡ 2 → set (set text 0 a) 1 b ≡ a ∷ b ∷ []
two_set (x ∷ y ∷ z ∷ rest) a b l = absurd (omega (arith, l))
two_set text a b l = search rules

pub zeros_written : (bs text : List ℕ) (tag n : ℕ) → 8 ≤ length bs → get_or (plain_words bs) 0 0 ≡ 0 →
    length text ≡ length (front_text (plain_words bs)) → tag ≡ 0 → n ≡ length bs / 8 - 1 →
    set (set text 0 tag) 1 n ≡ front_text (plain_words bs)
zeros_written bs text tag n l z capacity t e = search (rules, words_first, text_zero, words_exact, length-drop, two_set)

-- the text of a run of words as they are
pub full_long : (bs text : List ℕ) → 8 ≤ length bs → length bs % 8 ≡ 0 → zero_bytes (get_or (plain_words bs) 0 0) ≡ 0 →
    length text ≡ length (front_text (plain_words bs)) → length text ≡ 2 + length bs
full_long bs text l w z capacity = search (rules, words_first, text_full, length_plain, words_exact, length-drop)

pub full_capacity : (bs text head : List ℕ) (tag n : ℕ) → 8 ≤ length bs → length bs % 8 ≡ 0 → zero_bytes (get_or (plain_words bs) 0 0) ≡ 0 →
    length text ≡ length (front_text (plain_words bs)) → length head ≡ 8 →
    (length (set (put_mid 1 8 (set text 0 tag) head) 9 n) ≡ length text)
    × (length (take (length (set (put_mid 1 8 (set text 0 tag) head) 9 n) - 10) (drop 10 (set (put_mid 1 8 (set text 0 tag) head) 9 n)))
    ≡ length (take (length bs - 8) (drop 8 bs)))
full_capacity bs text head tag n l w z capacity h =
    let long = full_long bs text l w z capacity in
    let tagged = set text 0 tag in
    let headed = put_mid 1 8 tagged head in
    let all = set headed 9 n in
    let a : length tagged ≡ length text = length-set text 0 tag in
    let b : length headed ≡ length tagged = put_length 1 8 tagged head (omega (arith, a, long, l)) h in
    search (rules, length-set headed 9 n, take_rest all 10, take_rest bs 8, length-drop 10 all, length-drop 8 bs)

pub full_written : (bs text head rest : List ℕ) (tag n m word : ℕ) → AllByRecursion (λ b. b < 256) bs → 8 ≤ length bs → length bs % 8 ≡ 0 →
    word ≡ get_or (plain_words bs) 0 0 → zero_bytes word ≡ 0 →
    length text ≡ length (front_text (plain_words bs)) → tag ≡ 255 → head ≡ word_bytes word → n ≡ length bs / 8 - 1 → rest ≡ take (length bs - 8) (drop 8 bs) →
    m ≡ length (set (put_mid 1 8 (set text 0 tag) head) 9 n) - 10 →
    put_mid 10 m (set (put_mid 1 8 (set text 0 tag) head) 9 n) rest ≡ front_text (plain_words bs)
full_written bs text head rest tag n m word small l w v z capacity t h e r k =
    let zero : zero_bytes (get_or (plain_words bs) 0 0) ≡ 0 = ap zero_bytes (sym v) ∙ z in
    let long = full_long bs text l w zero capacity in
    let eight : length head ≡ 8 = ap length h in
    let tagged = set text 0 tag in
    let headed = put_mid 1 8 tagged head in
    let all = set headed 9 n in
    let more = plain_words (drop 8 bs) in
    let same : length all ≡ length text = (full_capacity bs text head tag n l w zero capacity eight).0 in
    let a : length tagged ≡ length text = length-set text 0 tag in
    let b : length headed ≡ length tagged = put_length 1 8 tagged head (omega (arith, a, long, l)) eight in
    let left : rest ≡ drop 8 bs = r ∙ take_rest bs 8 in
    let text_left : rest ≡ plain_text more = left ∙ words_text (drop 8 bs) (all_drop (λ b. b < 256) 8 bs small) (omega (arith, length-drop 8 bs, w, l)) in
    let count : n ≡ length more = omega (arith, e, words_exact (drop 8 bs), length-drop 8 bs) in
    let is : front_text (plain_words bs) ≡ 255 ∷ (word_bytes word ++ length more ∷ plain_text more) =
    ap front_text (words_first bs l) ∙ text_full _ more zero ∙ ap (λ (x : ℕ). 255 ∷ (word_bytes x ++ length more ∷ plain_text more)) (sym v) in
    put_end 10 m all rest (omega (arith, k, same, long, l)) (omega (arith, ap length left, length-drop 8 bs, k, same, long))
    ∙ ap (λ (xs : List ℕ). xs ++ rest) (take-pushed headed 9 10 n (omega arith) (omega (arith, a, b, long, l))
    ∙ ap (λ (xs : List ℕ). xs ++ n ∷ []) (take-put_mid 1 8 tagged head 9 (omega (arith, eight)) (omega (arith, a, long, l))
    ∙ ap (λ (xs : List ℕ). xs ++ head) (take-first text tag (omega (arith, long, l)))))
    ∙ append_assoc ((tag ∷ []) ++ head) (n ∷ []) rest
    ∙ ap (λ (x : ℕ). x ∷ (head ++ n ∷ rest)) t
    ∙ ap (λ (xs : List ℕ). 255 ∷ (xs ++ n ∷ rest)) h
    ∙ ap (λ (x : ℕ). 255 ∷ (word_bytes word ++ x ∷ rest)) count
    ∙ ap (λ (xs : List ℕ). 255 ∷ (word_bytes word ++ length more ∷ xs)) text_left
    ∙ sym is

-- the text of a word by its tag
marked_is : (bs : List ℕ) (word : ℕ) → 8 ≤ length bs → word ≡ get_or (plain_words bs) 0 0 → word ≢ 0 → zero_bytes word ≢ 0 →
    front_text (plain_words bs) ≡ tag_of (word_bytes word) ∷ filter (λ b. not (b == 0)) (word_bytes word)
marked_is bs word l v h z = search (rules, words_first, text_marked)

pub marked_capacity : (bs text bytes : List ℕ) (tag word : ℕ) → 8 ≤ length bs → word ≡ get_or (plain_words bs) 0 0 → word ≢ 0 → zero_bytes word ≢ 0 →
    length text ≡ length (front_text (plain_words bs)) →
    bytes ≡ filter (λ b. not (b == 0)) (word_bytes word) → length (take (length (set text 0 tag) - 1) (drop 1 (set text 0 tag))) ≡ length bytes
marked_capacity bs text bytes tag word l v h z capacity b = search (rules, marked_is bs word l v h z, take_rest (set text 0 tag) 1, length-drop 1 (set text 0 tag), length-set text 0 tag)

pub marked_written : (bs text bytes : List ℕ) (tag m word : ℕ) → 8 ≤ length bs → word ≡ get_or (plain_words bs) 0 0 → word ≢ 0 → zero_bytes word ≢ 0 →
    length text ≡ length (front_text (plain_words bs)) →
    tag ≡ tag_of (word_bytes word) → bytes ≡ filter (λ b. not (b == 0)) (word_bytes word) → m ≡ length (set text 0 tag) - 1 →
    put_mid 1 m (set text 0 tag) bytes ≡ front_text (plain_words bs)
marked_written bs text bytes tag m word l v h z capacity t b k =
    let is = marked_is bs word l v h z in
    let marked = filter (λ b. not (b == 0)) (word_bytes word) in
    let long : length text ≡ 1 + length marked = capacity ∙ ap length is ∙ omega arith in
    let a : length (set text 0 tag) ≡ length text = length-set text 0 tag in
    put_end 1 m (set text 0 tag) bytes (omega (arith, a, k, long)) (omega (arith, ap length b, a, k, long))
    ∙ ap (λ (xs : List ℕ). xs ++ bytes) (take-first text tag (omega (arith, long)))
    ∙ ap (λ (xs : List ℕ). tag ∷ xs) b ∙ ap (λ (x : ℕ). x ∷ marked) t ∙ sym is

-- the bytes that its tag marks, of those that were squeezed together
pub marked_bytes : (word n : ℕ) (bytes lanes zeros : List ℕ) → n ≡ length (filter (λ b. not (b == 0)) (word_bytes word)) →
    lanes ≡ filter (λ b. not (b == 0)) (word_bytes word) ++ zeros → bytes ≡ take n lanes →
    bytes ≡ filter (λ b. not (b == 0)) (word_bytes word)
marked_bytes word n bytes lanes zeros c e b = search (rules, take_at)

-- which word has which tag
pub tag_zero : (bs : List ℕ) (word tag : ℕ) → word ≡ get_or (plain_words bs) 0 0 → word < 18446744073709551616 → tag ≡ tag_of (word_bytes word) →
    tag ≡ 0 → get_or (plain_words bs) 0 0 ≡ 0
tag_zero bs word tag v f t z = sym v ∙ zero_word word f (sym t ∙ z)

pub tag_full : (bs : List ℕ) (word tag : ℕ) → word ≡ get_or (plain_words bs) 0 0 → tag ≡ tag_of (word_bytes word) → tag ≡ 255 →
    zero_bytes (get_or (plain_words bs) 0 0) ≡ 0
tag_full bs word tag v t z = ap zero_bytes (sym v) ∙ full_word word (sym t ∙ z)

pub tag_other : (word tag : ℕ) → tag ≡ tag_of (word_bytes word) → tag ≢ 0 → tag ≢ 255 → (word ≢ 0) × (zero_bytes word ≢ 0)
tag_other word tag t h n = (λ e. h (t ∙ ap (λ v. tag_of (word_bytes v)) e), λ z. n (t ∙ word_tag word z))
