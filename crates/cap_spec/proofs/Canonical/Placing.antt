-- Words that are in a segment, addressed by their positions.
use Rattle.std.proofs.lemmas.List.{length_push}
use Rattle.cap_spec.proofs.ProofNames.{List, [], Some, ap, append_assoc, arith, drop, get_or, length, refl, slice_get}
use Rattle.cap_spec.proofs.ProofNames.{suc, take, zero, ℕ, ◌++◌, ◌+◌, ◌∙◌, ◌∷◌, ◌≡◌, ◌≤◌, get_or_from_slice_get}
use Rattle.cap_spec.proofs.ProofNames.{same_Some, slice_get_within, words_from, HasWordsAt, rules}
use Rattle.cap_spec.proofs.Trees.ReadingBack.{WordsAt}

-- of words that are joined each part is at its place
pub lie_front : (words : List ℕ) (b : ℕ) (xs ys : List ℕ) → HasWordsAt words b (xs ++ ys) → HasWordsAt words b xs
lie_front words b [] [] h = h
lie_front words b [] (y ∷ ys) h = omega (arith, slice_get_within)
lie_front words b (x ∷ xs) ys h = (h.0, lie_front words (b + 1) xs ys h.1)

pub lie_back : (words : List ℕ) (b c : ℕ) (xs ys : List ℕ) → c ≡ b + length xs → HasWordsAt words b (xs ++ ys)
    → HasWordsAt words c ys
lie_back words b c [] ys e h = search rules
lie_back words b c (x ∷ xs) ys e h = lie_back words (b + 1) c xs ys (omega arith) h.1

-- words lie inside the segment that they are in
pub lie_inside : (words : List ℕ) (b : ℕ) (xs : List ℕ) → HasWordsAt words b xs → b + length xs ≤ length words
lie_inside words b [] h = omega arith
lie_inside words b (x ∷ xs) h = omega (arith, lie_inside words (b + 1) xs h.1)

-- the word at a position
pub lie_word : (words : List ℕ) (b : ℕ) (xs : List ℕ) → HasWordsAt words b xs → WordsAt words b xs
lie_word words b [] h k lt = absurd (omega (arith, lt))
lie_word words b (x ∷ xs) h zero lt = ap (λ i. get_or words i 0) (omega arith) ∙ get_or_from_slice_get words b x 0 h.0
lie_word words b (x ∷ xs) h (suc k) lt = search (rules, lie_word words (b + 1) xs h.1 k (omega (arith, lt)))

-- what is left from a position on
pub rest_at : (words : List ℕ) (b x : ℕ) → slice_get words b ≡ Some x → drop b words ≡ x ∷ drop (b + 1) words
rest_at [] b x h = absurd (cc h)
rest_at (y ∷ ys) zero x h = ap (λ z. z ∷ ys) (same_Some y x h)
rest_at (y ∷ ys) (suc b) x h = search (rules, rest_at ys b x h)

-- words that are from b on are the words that are read there
pub lie_taken : (words : List ℕ) (b : ℕ) (xs : List ℕ) → HasWordsAt words b xs → take (length xs) (drop b words) ≡ xs
lie_taken words b [] h = refl
lie_taken words b (x ∷ xs) h = search (rules, rest_at, lie_taken words (b + 1) xs h.1)

pub lie_read : (words : List ℕ) (b n : ℕ) (xs : List ℕ) → n ≡ length xs → HasWordsAt words b xs
    → words_from (words ∷ []) 0 b n ≡ xs
lie_read words b n xs e h = search (rules, lie_taken)

-- the word after a front
word_after : (front : List ℕ) (x : ℕ) (xs : List ℕ) → slice_get (front ++ x ∷ xs) (length front) ≡ Some x
word_after [] x xs = refl
word_after (y ∷ ys) x xs = word_after ys x xs

-- a list is in itself after each of its fronts
lie_after : (front xs : List ℕ) → HasWordsAt (front ++ xs) (length front) xs
lie_after front [] = search rules
lie_after front (x ∷ xs) =
    search (rules, append_assoc, word_after, length_push, lie_after (front ++ x ∷ []) xs)

-- a list is at the beginning of itself
pub lie_whole : (xs : List ℕ) → HasWordsAt xs 0 xs
lie_whole xs = lie_after [] xs
