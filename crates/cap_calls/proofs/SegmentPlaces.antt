-- The words of a segment are where its frame has them, and inside the frame.
use Rattle.std.proofs.Common.{le_refl}
use Rattle.cap_spec.proofs.Lemmas.{length_joined, table_length}
use Rattle.cap_spec.proofs.ProofNames.{List, append_assoc, arith, drop, drop-drop, length, length-append, rules}
use Rattle.cap_spec.proofs.ProofNames.{slice_range, suc, take, take-take, take_all, ℕ, ◌*◌, ◌++◌, ◌+◌, ◌-◌, ◌<◌}
use Rattle.cap_spec.proofs.ProofNames.{◌∷◌, ◌≡◌, ◌≤◌, drop-append-add, take-append_seam, drop-take, length-map}
use Rattle.cap_spec.proofs.ProofNames.{words_from, joined, sizes_of, segment_of, plain_words}
use Rattle.cap_frame.specs.Fronts.{IsFront, table_words}
use Rattle.cap_frame.proofs.Parts.{drop_words, take_words}
use Rattle.cap_frame.specs.SegmentStarts.{start_of}
use Rattle.cap_frame.proofs.SegmentStarts.{all_words, start_within}
use Rattle.cap_calls.specs.CallNodes.{offset_of}

-- a segment of joined ones, from its place on
joined_at : (m : List (List ℕ)) (s : ℕ) (rest : List ℕ) → s < length m
    → take (length (segment_of m s)) (drop (start_of m s) (joined m ++ rest)) ≡ segment_of m s
joined_at (xs ∷ m) (suc s) rest l = search (rules, append_assoc, drop-append-add, joined_at m s rest (omega (arith, l)))
joined_at m s rest l = search (rules, append_assoc, take-append_seam)

-- some words of a segment, which is the first of some words
part_of : (xs ys : List ℕ) (long b n : ℕ) → take long ys ≡ xs → b + n ≤ long → take n (drop b ys) ≡ slice_range xs b (b + n)
part_of xs ys long b n e h =
    let whole : b + (long - b) ≡ long = omega (arith, h) in
    search (rules, drop-take, take-take)

module _ (limit : ℕ) (bs : List ℕ) (m : List (List ℕ)) (x : ℕ) (h : IsFront limit bs m x) (t b n : ℕ) (exists : t < length m)
    (inside : b + n ≤ length (segment_of m t)) where
  count : length (sizes_of m) ≡ length m
  count = length-map m (λ (ws : List ℕ). length ws)

  -- The words from a word of a frame on are those of its segment.
  words_there : take n (drop (table_words (length m) + (start_of m t + b)) (plain_words bs)) ≡ words_from m t b n
  words_there =
      search (
        rules,
        append_assoc h.frames.table (joined m) h.rest,
        count,
        table_length h.frames.table (sizes_of m) h.frames.is_table,
        drop-append-add h.frames.table (joined m ++ h.rest) ((start_of m t) + b),
        drop-drop b (start_of m t) (joined m ++ h.rest),
        part_of (segment_of m t) (drop (start_of m t) (joined m ++ h.rest)) (length (segment_of m t)) b n (joined_at m t h.rest exists) inside,
        joined_at m t h.rest exists,
      )

  pub words_at : (k : ℕ) → offset_of m t b ≡ 8 * k → slice_range (plain_words bs) k (k + n) ≡ words_from m t b n
  words_at k e = search (rules, words_there)

  -- So are the words of the bytes from its offset on.
  pub bytes_at : plain_words (slice_range bs (offset_of m t b) (offset_of m t b + 8 * n)) ≡ words_from m t b n
  bytes_at = search (rules, take_words, drop_words, words_there)

  -- And they are inside the frame.
  pub offset_inside : offset_of m t b + 8 * n ≤ x
  offset_inside = search (rules, length-append h.frames.table (joined m), length_joined m, count, table_length h.frames.table (sizes_of m) h.frames.is_table, start_within m t exists, all_words m)

-- All words of a segment.
pub segment_words : (limit : ℕ) (bs : List ℕ) (m : List (List ℕ)) (n s : ℕ) → IsFront limit bs m n → s < length m
    → plain_words (slice_range bs (offset_of m s 0) (offset_of m s 0 + 8 * length (segment_of m s))) ≡ segment_of m s
segment_words limit bs m n s h l =
    search (
      rules,
      bytes_at limit bs m n h s 0 (length (segment_of m s)) l (omega arith),
      take_all (length (segment_of m s)) (segment_of m s) (le_refl (length (segment_of m s))),
      le_refl (length (segment_of m s)),
    )
