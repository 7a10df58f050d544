-- The frame with zero padding is one, and a list of frames splits in one way.
use Rattle.std.proofs.lemmas.List.Elements.{All-replicate, recursion_from_All}
use Rattle.cap_spec.proofs.Bytes.WordBytes.{four_bytes}
use Rattle.cap_spec.proofs.Frames.Endings.{frame_some}
use Rattle.cap_spec.proofs.Frames.Framing.{one_frame}
use Rattle.cap_spec.proofs.ProofNames.{List, [], ap, arith, drop, flat_map, length, length-append, map, refl, replicate}
use Rattle.cap_spec.proofs.ProofNames.{suc, sym, ℕ, ◌%◌, ◌*◌, ◌++◌, ◌+◌, ◌-◌, ◌/◌, ◌<◌, ◌^◌, ◌∙◌, ◌∷◌, ◌≡◌, length-map}
use Rattle.cap_spec.proofs.ProofNames.{length-replicate, AllByRecursion, Frames, FramesZero, Stream, frame_text, halves}
use Rattle.cap_spec.proofs.ProofNames.{joined, paired, sizes_of, IsMessage, plain_text, rules}

-- the bytes of words are those of their halves
pub plain_halves : (words : List ℕ) → plain_text words ≡ flat_map four_bytes (flat_map halves words)
plain_halves [] = refl
plain_halves (x ∷ words) = search (rules, plain_halves words)

-- numbers in pairs have these numbers as halves, and zero after an odd one
pub paired_halves : (xs : List ℕ) → AllByRecursion (λ n. n < 2 ^ 32) xs
    → flat_map halves (paired xs) ≡ xs ++ replicate (length xs % 2) 0
paired_halves (a ∷ b ∷ rest) all = search (rules, paired_halves rest all.1.1)
paired_halves xs all = search rules

-- the sizes of a message fit
sizes_fit : (m : List (List ℕ)) → AllByRecursion (λ segment. length segment < 2 ^ 32) m
    → AllByRecursion (λ n. n < 2 ^ 32) (sizes_of m)
sizes_fit [] all = tt
sizes_fit (s ∷ m) all = (all.0, sizes_fit m all.1)

-- zeros are below 2 ^ 32
zeros_fit : (n : ℕ) → AllByRecursion (λ k. k < 2 ^ 32) (replicate n 0)
zeros_fit n = recursion_from_All (λ k. k < 2 ^ 32) _ (All-replicate (λ k. k < 2 ^ 32) n 0 (omega arith))

-- the words with zero padding frame the message
pub frame_text_frames : (m : List (List ℕ)) → IsMessage m → Frames (frame_text m) m
frame_text_frames m is =
    let few = is.few in
    let fit = sizes_fit m (recursion_from_All (λ segment. length segment < 2 ^ 32) m is.lengths) in
    let first : length m - 1 < 2 ^ 32 = omega arith in
    let h = paired_halves ((length m - 1) ∷ sizes_of m) (first, fit) in
    search (rules, length-replicate, zeros_fit, length-map)

-- zeros are zero, and numbers that are zero are zeros
zeros_zero : (n : ℕ) → AllByRecursion (λ (k : ℕ). k ≡ 0) (replicate n 0)
zeros_zero n = recursion_from_All (λ (k : ℕ). k ≡ 0) _ (All-replicate (λ (k : ℕ). k ≡ 0) n 0 refl)

are_zeros : (xs : List ℕ) → AllByRecursion (λ (k : ℕ). k ≡ 0) xs → xs ≡ replicate (length xs) 0
are_zeros [] all = refl
are_zeros (x ∷ xs) all = ap (λ k. k ∷ xs) all.0 ∙ ap (λ l. 0 ∷ l) (are_zeros xs all.1)

-- words are reported by their halves
word_back : (x : ℕ) → x ≡ x % 2 ^ 32 + 2 ^ 32 * (x / 2 ^ 32)
word_back x = omega arith

halves_back : (a b : List ℕ) → flat_map halves a ≡ flat_map halves b → a ≡ b
halves_back [] [] e = refl
halves_back (x ∷ a) (y ∷ b) e =
    let rest = halves_back a b (ap (λ l. drop 2 l) e) in search (rules, word_back)
halves_back a b e = absurd (cc)

-- The words with zero padding are the only ones that frame the message with zero padding.
pub frame_text_zero : (m : List (List ℕ)) → IsMessage m → FramesZero (frame_text m) m
unfolding frame_text_frames
frame_text_zero m is = record {
  frames = frame_text_frames m is;
  zero_padding = zeros_zero (suc (length (sizes_of m)) % 2);
}

-- this many zeros
zeros : (xs : List ℕ) (n : ℕ) → AllByRecursion (λ (k : ℕ). k ≡ 0) xs → length xs ≡ n → xs ≡ replicate n 0
zeros xs n all e = are_zeros xs all ∙ ap (λ k. replicate k 0) e

one_zero_frame : (a b : List ℕ) (m : List (List ℕ)) → FramesZero a m → FramesZero b m → a ≡ b
one_zero_frame a b m h g =
    let t = h.frames.is_table in
    let u = g.frames.is_table in
    let n = (1 + length (sizes_of m)) % 2 in
    let same : t.padding ≡ u.padding = zeros t.padding n h.zero_padding t.width
    ∙ sym (zeros u.padding n g.zero_padding u.width) in
    let numbers = t.numbers ∙ ap (λ l. (length (sizes_of m) - 1) ∷ (sizes_of m ++ l)) same ∙ sym u.numbers in
    h.frames.whole ∙ ap (λ l. l ++ joined m) (halves_back h.frames.table g.frames.table numbers) ∙ sym g.frames.whole

pub zero_frame_is_text : (words : List ℕ) (m : List (List ℕ)) → IsMessage m → FramesZero words m → words ≡ frame_text m
zero_frame_is_text words m is h = one_zero_frame words (frame_text m) m h (frame_text_zero m is)

-- frames one after the other that make the same words frame the same messages
pub same_stream : (fs gs : List (List ℕ × List (List ℕ))) → AllByRecursion (λ f. Frames f.0 f.1) fs
    → AllByRecursion (λ f. Frames f.0 f.1) gs →
    flat_map (λ f. f.0) fs ≡ flat_map (λ f. f.0) gs → map (λ f. f.1) fs ≡ map (λ f. f.1) gs
same_stream [] [] a b e = refl
same_stream [] (g ∷ gs) a b e =
    let s = frame_some g.0 g.1 b.0 in
    let l = ap length e in
    search (rules, length-append)
same_stream (f ∷ fs) [] a b e =
    let s = frame_some f.0 f.1 a.0 in
    let l = ap length e in
    search (rules, length-append)
same_stream (f ∷ fs) (g ∷ gs) a b e =
    let o = one_frame f.0 g.0 (flat_map (λ f. f.0) fs) (flat_map (λ f. f.0) gs) f.1 g.1 a.0 b.0 e in
    search (rules, same_stream fs gs a.1 b.1 o.2)

-- words are frames of one list of messages at most
pub one_stream : (words : List ℕ) (ms ns : List (List (List ℕ))) → Stream words ms → Stream words ns → ms ≡ ns
one_stream words ms ns s t = search (rules, same_stream)
