-- The group before packed bytes, by its kind.
use Rattle.cap_spec.proofs.Bytes.Plain.{words_exact}
use Rattle.cap_spec.proofs.Packed.Unpacking.{cut_front, length_marked, unpacked_front}
use Rattle.cap_spec.proofs.ProofNames.{List, drop, drop-drop, length, length-append, length-drop, rules}
use Rattle.cap_spec.proofs.ProofNames.{length-take-le, slice_index, ℕ, ◌*◌, ◌+◌, ◌<◌, ◌≡◌}
use Rattle.cap_spec.proofs.ProofNames.{◌≢◌, ◌≤◌, ones, group_length, group_words, packed_is_cut}
use Rattle.cap_spec.proofs.ProofNames.{unpacked}
use Rattle.cap_pack.proofs.Heads.{head_rest-marked, head_rest-ones}

pub plain_count : (bs : List ℕ) → slice_index bs 0 ≡ 255 → 10 + 8 * slice_index bs 9 ≤ length bs
    → length (group_words bs) ≡ 1 + slice_index bs 9
plain_count bs e l = search (rules, length-take-le, length-drop, length-append, words_exact)

-- any other group has the bytes that its tag marks, and is one word
pub marked_length : (bs : List ℕ) → 0 < length bs → slice_index bs 0 < 256 → slice_index bs 0 ≢ 0
    → slice_index bs 0 ≢ 255 →
    group_length bs ≡ 1 + ones (slice_index bs 0)
marked_length bs l h z f = search (rules, head_rest-ones, head_rest-marked, length_marked)

-- the groups after the one in front go on with the words and with the end
pub goes_on : (bs front : List ℕ) (at n k words : ℕ) → front ≡ drop at bs → 0 < length front → n ≡ group_length front
    → n ≤ length front →
    k ≡ length (group_words front)
    → length (unpacked bs) ≡ words + length (unpacked (drop at bs)) → packed_is_cut bs ≡ packed_is_cut (drop at bs)
    → (length (unpacked bs) ≡ words + k + length (unpacked (drop (at + n) bs)))
    × (packed_is_cut bs ≡ packed_is_cut (drop (at + n) bs))
goes_on bs front at n k words e some len inside count counted ends =
    search (rules, drop-drop, unpacked_front, length-append, cut_front)
