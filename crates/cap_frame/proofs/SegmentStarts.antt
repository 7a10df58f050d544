-- Where the words of a segment lie among those of all.
use Rattle.cap_spec.proofs.ProofNames.{List, [], ap, arith, length, refl, suc, sum, zero, ℕ, ◌+◌, ◌<◌, ◌∙◌, ◌∷◌, ◌≡◌, ◌≤◌}
use Rattle.cap_spec.proofs.ProofNames.{rules, segment_of, sizes_of, sum_by-cons}
use Rattle.cap_frame.specs.SegmentStarts.{start_of}

-- a segment ends before a later one starts
pub start_order : (m : List (List ℕ)) (s s' : ℕ) → s < s' → s' ≤ length m → start_of m s + length (segment_of m s) ≤ start_of m s'
start_order (x ∷ m) zero (suc s') h k = omega arith
start_order (x ∷ m) (suc s) (suc s') h k = let r = start_order m s s' (omega arith) (omega arith) in omega (arith, r)
start_order m s s' h k = search rules

-- a segment's words are among all
pub start_within : (m : List (List ℕ)) (s : ℕ) → s < length m → start_of m s + length (segment_of m s) ≤ start_of m (length m)
start_within m s h = start_order m s (length m) h (omega arith)

-- the next segment starts after this one
start_suc : (m : List (List ℕ)) (s : ℕ) → s < length m → start_of m (suc s) ≡ start_of m s + length (segment_of m s)
start_suc (x ∷ m) (suc s) h = let r = start_suc m s (omega arith) in omega (arith, r)
start_suc m s h = search rules

pub start_next : (m : List (List ℕ)) (s : ℕ) → s < length m → start_of m (s + 1) ≡ start_of m s + length (segment_of m s)
start_next m s h = let e : s + 1 ≡ suc s = omega arith in ap (start_of m) e ∙ start_suc m s h

-- all segments together have as many words as their sizes sum to
pub all_words : (m : List (List ℕ)) → start_of m (length m) ≡ sum (sizes_of m)
all_words [] = refl
all_words (x ∷ m) = (let rest = all_words m in omega (arith, rest, sum_by-cons (λ x. x) (length x) (sizes_of m)))
