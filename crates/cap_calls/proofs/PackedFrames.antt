-- The packed text of a message.
use Rattle.std.proofs.lemmas.List.Concat.{flat_map-append}
use Rattle.cap_spec.proofs.Bytes.Lists.{all_append}
use Rattle.cap_spec.proofs.Packed.Repacking.{pack_text_unpacks}
use Rattle.cap_spec.proofs.ProofNames.{List, [], append-nil, arith, drop, flat_map, get_or, length, length-append}
use Rattle.cap_spec.proofs.ProofNames.{refl, sum, take, take-append-drop, zero-add, ℕ, ◌++◌, ◌+◌, ◌-◌, ◌/◌, ◌<◌}
use Rattle.cap_spec.proofs.ProofNames.{◌∷◌, ◌≡◌, ◌≤◌, length-map, map-append, take_more, sum_by-append, AllByRecursion}
use Rattle.cap_spec.proofs.ProofNames.{frame_text, joined, paired, sizes_of, IsMessage, packed_frame, table_of, pack_text}
use Rattle.cap_spec.proofs.ProofNames.{Unpacks, IsWord, rules}
use Rattle.cap_frame.proofs.TableBytes.{numbers_fit, paired_words}

-- texts that unpack to words do so one after the other
unpacks_both : (a b ws vs : List ℕ) → Unpacks a ws → Unpacks b vs → Unpacks (a ++ b) (ws ++ vs)
unpacks_both a b ws vs h k = search (rules, all_append, flat_map-append)

segments_unpack : (m : List (List ℕ)) → AllByRecursion (AllByRecursion IsWord) m
    → Unpacks (flat_map pack_text m) (joined m)
segments_unpack [] all = record { groups = []; each = tt; text = refl; encoded = refl }
segments_unpack (s ∷ m) all = search (rules, unpacks_both, pack_text_unpacks, segments_unpack m all.1)

-- The packed text of a message unpacks to its frame with zero padding.
pub frame_unpacks : (m : List (List ℕ)) → IsMessage m → AllByRecursion (AllByRecursion IsWord) m
    → Unpacks (packed_frame m) (frame_text m)
frame_unpacks m is all = search (rules, unpacks_both, pack_text_unpacks, paired_words, numbers_fit, segments_unpack)

-- how many words a table has
paired_size : (xs : List ℕ) → length (paired xs) ≡ (length xs + 1) / 2
paired_size (a ∷ b ∷ xs) = let t = paired_size xs in omega (arith, t)
paired_size xs = refl

pub table_size : (m : List (List ℕ)) → length (table_of m) ≡ length m / 2 + 1
table_size m = omega (arith, paired_size ((length m - 1) ∷ sizes_of m), length-map m length)

-- One segment more is packed, or counted.
pub texts_more : (m : List (List ℕ)) (s : ℕ) → s < length m
    → flat_map pack_text (take (s + 1) m) ≡ flat_map pack_text (take s m) ++ pack_text (get_or m s [])
texts_more m s h = search (rules, take_more m s [] h, flat_map-append pack_text (take s m) (get_or m s [] ∷ []), append-nil (pack_text (get_or m s [])))

pub sizes_more : (m : List (List ℕ)) (s : ℕ) → s < length m
    → sum (sizes_of (take (s + 1) m)) ≡ sum (sizes_of (take s m)) + length (get_or m s [])
sizes_more m s h =
    search (
      rules,
      take_more m s [] h,
      map-append length (take s m) (get_or m s [] ∷ []),
      sum_by-append (λ x. x) (sizes_of (take s m)) ((length (get_or m s [])) ∷ []),
      zero-add (length (get_or m s [])),
    )

-- the texts of the first segments are not longer than those of all
pub texts_fit : (m : List (List ℕ)) (s : ℕ) → length (flat_map pack_text (take s m)) ≤ length (flat_map pack_text m)
texts_fit m s = search (rules, take-append-drop s m, flat_map-append pack_text (take s m) (drop s m), length-append (flat_map pack_text (take s m)) (flat_map pack_text (drop s m)))
