-- The words of ranges and of lists of values, as a copy appends them.
use Rattle.cap_spec.proofs.Lemmas.{rest_at, HasWord-at, range_length, length-scalar_words}
use Rattle.cap_spec.proofs.ProofNames.{common_steps, List, [], ap, arith, drop, drop-drop, get_or, get_or-drop}
use Rattle.cap_spec.proofs.ProofNames.{get_or-take, length, length-append, refl, subst, suc, sym, take, take-add, zero}
use Rattle.cap_spec.proofs.ProofNames.{ℕ, ◌*◌, ◌++◌, ◌+◌, ◌-◌, ◌<◌, ◌∙◌, ◌∷◌, ◌≡◌, ◌≤◌, ◌⊎◌, get_or-append_right}
use Rattle.cap_spec.proofs.ProofNames.{get_or_append_left, get_or_default, same_lists, length-map-range_with_len}
use Rattle.cap_spec.proofs.ProofNames.{get_or_from_slice_get, AllByRecursion, value_at, values_of, words_from, HasWord}
use Rattle.cap_spec.proofs.ProofNames.{segment_of, HasWordsAt, element_bits, list_words, scalar_words, IsWord, field}
use Rattle.cap_spec.proofs.ProofNames.{rules}
use Rattle.cap_spec.proofs.Trees.WordsRead.{values_read}
use Rattle.cap_canon.specs.Filling.{elements_from}
use Rattle.cap_canon.specs.Values.{used_bits}

-- a range is a prefix of what is from its beginning on
range_is : (m : List (List ℕ)) (t b n : ℕ) → words_from m t b n ≡ take n (drop b (segment_of m t))
range_is m t b n = let e : b + n - b ≡ n = omega arith in ap (λ k. take k (drop b (segment_of m t))) e

-- a range and the one after it
pub words_split : (m : List (List ℕ)) (t b x y : ℕ) → words_from m t b (x + y) ≡ words_from m t b x ++ words_from m t (b + x) y
words_split m t b x y = search (rules, range_is, take-add, drop-drop)

-- elements of which nothing is cut
pub elements_whole : (m : List (List ℕ)) (t b ds ps n : ℕ) → words_from m t b (n * (ds + ps)) ≡ elements_from m t b ds ps ds ps n
elements_whole m t b ds ps zero = let e : b + 0 * (ds + ps) - b ≡ 0 = omega arith in ap (λ k. take k (drop b (segment_of m t))) e
elements_whole m t b ds ps (suc n) =
    let e : suc n * (ds + ps) ≡ ds + ps + n * (ds + ps) = omega arith in
    search (rules, words_split, elements_whole m t (b + ds + ps) ds ps n)

-- one word more of a range
pub range_more : (m : List (List ℕ)) (t b n x : ℕ) → HasWord m t (b + n) x → words_from m t b (n + 1) ≡ words_from m t b n ++ x ∷ []
range_more m t b n x h = search (rules, words_split, range_is, rest_at)

-- a range of no words, and one of one word
pub range_none : (m : List (List ℕ)) (t b : ℕ) → words_from m t b 0 ≡ []
range_none m t b = let e : b + 0 - b ≡ 0 = omega arith in rw e refl

pub range_one : (m : List (List ℕ)) (t b x : ℕ) → HasWord m t b x → words_from m t b 1 ≡ x ∷ []
range_one m t b x h =
    let e : b + 0 ≡ b = omega arith in
    range_more m t b 0 x (subst (λ w. HasWord m t w x) (sym e) h) ∙ ap (λ xs. xs ++ x ∷ []) (range_none m t b)

pub range_two : (m : List (List ℕ)) (t b x y : ℕ) → HasWord m t b x → HasWord m t (b + 1) y → words_from m t b 2 ≡ x ∷ y ∷ []
range_two m t b x y h k = range_more m t b 1 y k ∙ ap (λ xs. xs ++ y ∷ []) (range_one m t b x h)

-- what holds of all before others
pub all_front : {A : Type 0} (P : A → Type 0) (xs ys : List A) → AllByRecursion P (xs ++ ys) → AllByRecursion P xs
all_front P [] ys a = tt
all_front P (x ∷ xs) ys a = (a.0, all_front P xs ys a.1)

-- a range is in its segment
pub range_lies : (m : List (List ℕ)) (t b n : ℕ) → b + n ≤ length (segment_of m t) → HasWordsAt (segment_of m t) b (words_from m t b n)
range_lies m t b zero h = let e : b + 0 - b ≡ 0 = omega arith in rw e (omega (arith, h))
range_lies m t b (suc n) h =
    let x = HasWord-at m t b (omega (arith, h)) in
    search (rules, range_is, rest_at, range_lies m t (b + 1) n (omega (arith, h)))

-- elements have the words that are left of each
pub length-elements_from : (m : List (List ℕ)) (t b ds ps d p n : ℕ) → d ≤ ds → p ≤ ps → b + n * (ds + ps) ≤ length (segment_of m t)
    → length (elements_from m t b ds ps d p n) ≡ n * (d + p)
length-elements_from m t b ds ps d p zero hd hp h = omega arith
length-elements_from m t b ds ps d p (suc n) hd hp h =
    let e : suc n * (ds + ps) ≡ ds + ps + n * (ds + ps) = omega arith in
    search (rules, range_length, length-append, length-elements_from m t (b + ds + ps) ds ps d p n hd hp (omega (arith, h, e)))

-- a word of a range
pub range_word : (m : List (List ℕ)) (t b n k : ℕ) → k < n → get_or (words_from m t b n) k 0 ≡ get_or (segment_of m t) (b + k) 0
range_word m t b n k lt = ap (λ xs. get_or xs k 0) (range_is m t b n) ∙ (get_or-take n (drop b (segment_of m t)) k 0 lt ∙ get_or-drop b (segment_of m t) k 0)

all_at : (xs : List ℕ) (k : ℕ) → AllByRecursion IsWord xs → k < length xs → IsWord (get_or xs k 0)
all_at x1 k a lt = grind (arith, common_steps)

-- every word of a list of values but the last is full of them
pub used_all : (c n k : ℕ) → c < 6 → suc k < list_words c n → used_bits c n k ≡ 64
used_all e n k lt h = search rules

pub whole_field : (x : ℕ) → IsWord x → field x 0 64 ≡ x
whole_field x h = omega (arith, h)

-- the words of a list of values: those that it is read from, the last one without the bits after the last value
pub values_laid : (m : List (List ℕ)) (t b c n before x : ℕ) → c < 6 → list_words c n ≡ before + 1 → b + before < length (segment_of m t)
    → AllByRecursion IsWord (words_from m t b before) → HasWord m t (b + before) x
    → scalar_words c (values_of m t b c n) ≡ words_from m t b before ++ field x 0 (used_bits c n before) ∷ []
values_laid m t b c n before x lt e inside words last = same_lists (scalar_words c vs) (front ++ end) (own ∙ sym both) each
  where
    vs : List ℕ
    vs = values_of m t b c n

    front : List ℕ
    front = words_from m t b before

    end : List ℕ
    end = field x 0 (used_bits c n before) ∷ []

    many : length front ≡ before
    many = range_length m t b before (omega (arith, inside))

    own : length (scalar_words c vs) ≡ before + 1
    own = length-scalar_words c vs ∙ (ap (list_words c) (length-map-range_with_len (value_at (segment_of m t) b (element_bits c)) 0 n) ∙ e)

    both : length (front ++ end) ≡ before + 1
    both = let a = length-append front end in omega (arith, a, many)

    early : (k : ℕ) → k < before → get_or (scalar_words c vs) k 0 ≡ get_or (front ++ end) k 0
    early k h = search (rules, front, range_word, all_at, many, values_read, used_all, whole_field, get_or_append_left, end)

    late : (k : ℕ) → k ≡ before → get_or (scalar_words c vs) k 0 ≡ get_or (front ++ end) k 0
    late k h =
        let w : get_or (segment_of m t) (b + before) 0 ≡ x = get_or_from_slice_get (segment_of m t) (b + before) x 0 last in
        let z : k - before ≡ 0 = omega (arith, h) in search (rules, get_or-append_right, end, front, many, values_read, vs)

    cases : (k : ℕ) → k < before + 1 → (k < before) ⊎ (k ≡ before)
    cases k h = search arith

    go : (k : ℕ) → (k < before) ⊎ (k ≡ before) → get_or (scalar_words c vs) k 0 ≡ get_or (front ++ end) k 0
    go k y2 = search (rules, early, late)

    each : (k d : ℕ) → k < length (scalar_words c vs) → get_or (scalar_words c vs) k d ≡ get_or (front ++ end) k d
    each k d h =
        sym (get_or_default (scalar_words c vs) k 0 d h) ∙ (go k (cases k (omega (arith, h, own)))
        ∙ get_or_default (front ++ end) k 0 d (omega (arith, h, own, both)))
