-- The words of a message at their places.
use Rattle.cap_spec.proofs.ProofNames.{List, [], arith, get_or, length, subst, sym, ℕ, ◌<◌, ◌^◌, ◌∙◌, ◌≡◌, same_Some}
use Rattle.cap_spec.proofs.ProofNames.{slice_get-get_or, slice_get_within, HasWord, IsMessage, segment_of, common_steps}

-- the word at a place is one word
pub one_word : (m : List (List ℕ)) (s w x y : ℕ) → HasWord m s w x → HasWord m s w y → x ≡ y
one_word m s w x y p q = same_Some x y (sym p ∙ q)

-- a word is inside its segment
pub HasWord-inside : (m : List (List ℕ)) (s w x : ℕ) → HasWord m s w x → w < length (segment_of m s)
HasWord-inside m s w x h = slice_get_within (segment_of m s) w x h

-- each place inside a segment has a word
pub HasWord-at : (m : List (List ℕ)) (s w : ℕ) → w < length (segment_of m s) → (x : ℕ) × HasWord m s w x
HasWord-at m s w h = (get_or (segment_of m s) w 0, slice_get-get_or (segment_of m s) w 0 h)

-- a word is in a segment that there is
pub HasWord-segment : (m : List (List ℕ)) (s w x : ℕ) → HasWord m s w x → s < length m
HasWord-segment m s w x h = grind (arith, common_steps)

-- a segment's places are numbers of 32 bits
pub short_segment : (m : List (List ℕ)) (s : ℕ) → IsMessage m → s < length m → length (segment_of m s) < 2 ^ 32
short_segment m s h l = h.lengths s [] l

-- what is so of the word at a place is so of each name of that word
pub at_word : (P : ℕ → Type 0) (m : List (List ℕ)) (s w x y : ℕ) → HasWord m s w x → HasWord m s w y → P x → P y
at_word P m s w x y p q = subst P (one_word m s w x y p q)
