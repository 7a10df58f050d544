-- What is kept of a framed message before bytes, and its segments.
use Rattle.cap_spec.proofs.Frames.Framing.{length_halves}
use Rattle.cap_spec.proofs.ProofNames.{List, [], ap, arith, drop, length, length-drop, length-take-le, sum, sym}
use Rattle.cap_spec.proofs.ProofNames.{zero-add, ℕ, ◌*◌, ◌+◌, ◌∙◌, ◌∷◌, ◌≡◌, ◌≤◌, sizes_of, plain_words, rules}
use Rattle.cap_frame.specs.FrameNames.{cut, sizes_given, table_words}
use Rattle.cap_frame.proofs.Cuts.{cut_length, words_all}
use Rattle.cap_frame.proofs.InOneBuffer.{held_sizes}

-- a table gives as many sizes as there are segments
pub many_given : (bs : List ℕ) (count : ℕ) → 8 * table_words count ≤ length bs → length (sizes_given count (plain_words bs)) ≡ count
many_given bs count inside = search (rules, length-take-le, length-drop, length_halves, words_all)

module _ (bs : List ℕ) (count words : ℕ) (total : words ≡ sum (sizes_given count (plain_words bs))) (inside : 8 * (table_words count + words) ≤ length bs) where
  -- the words of the segments are there
  pub enough : 8 * sum (sizes_given count (plain_words bs)) ≤ length (drop (8 * table_words count) bs)
  enough = omega (arith, length-drop (8 * table_words count) bs, total, inside)

  -- there are this many segments
  pub segments_are : count ≡ length (cut (sizes_given count (plain_words bs)) (drop (8 * table_words count) bs))
  segments_are = sym (cut_length (sizes_given count (plain_words bs)) (drop (8 * table_words count) bs) ∙ many_given bs count (omega (arith, inside)))

  -- of this many words
  pub words_are : words ≡ sum (sizes_of (cut (sizes_given count (plain_words bs)) (drop (8 * table_words count) bs)))
  words_are = total ∙ ap sum (sym (held_sizes (sizes_given count (plain_words bs)) (drop (8 * table_words count) bs) enough))

-- a list of one number is its sum
pub one_size : (ns : List ℕ) → length ns ≡ 1 → ns ≡ sum ns ∷ []
one_size (n ∷ m ∷ ns) e = absurd (omega (arith, e))
one_size ns e = search (rules, zero-add)

-- the size of one segment is how many words there are
pub one_reported : (bs : List ℕ) (count words : ℕ) → words ≡ sum (sizes_given count (plain_words bs)) → 8 * (table_words count + words) ≤ length bs → count ≡ 1
    → sizes_given count (plain_words bs) ≡ words ∷ []
one_reported bs count words total inside one = search (rules, one_size, many_given)
