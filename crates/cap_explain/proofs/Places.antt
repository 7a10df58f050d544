-- Places that a message doesn't have.
use Rattle.cap_spec.proofs.ProofNames.{List, None, [], ap, length, ℕ, ◌∷◌, ◌≡◌, ◌≤◌, get_or_past, slice_get_past}
use Rattle.cap_spec.proofs.ProofNames.{segment_of}
use Rattle.cap_explain.specs.Leading.{word_of}

-- there is no word in a segment that doesn't exist
pub no_segment : (m : List (List ℕ)) (s w : ℕ) → length m ≤ s → word_of m s w ≡ None
no_segment m s w h = ap (λ segment. word_of (segment ∷ []) 0 w) (get_or_past m s [] h)

-- there is none after the end of its segment
pub no_word : (m : List (List ℕ)) (s w : ℕ) → length (segment_of m s) ≤ w → word_of m s w ≡ None
no_word m s w h = slice_get_past (segment_of m s) w h
