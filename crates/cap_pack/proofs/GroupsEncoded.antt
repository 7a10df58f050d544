-- The groups of a piece of words: which words a run takes from the front of others, and what encodes it.
use Rattle.std.proofs.lemmas.List.{drop_more}
use Rattle.cap_spec.proofs.Packed.Packing.{front-append, front-le, group_size-plain, group_size-zeros, nonzero_word}
use Rattle.cap_spec.proofs.Packed.Packing.{pack_text-marked, pack_text-plain, pack_text-zeros, plain_full}
use Rattle.cap_spec.proofs.Packed.Repacking.{zero_front}
use Rattle.cap_spec.proofs.ProofNames.{Bool, List, [], ap, append-nil, append_assoc, arith, cond, drop, drop-drop}
use Rattle.cap_spec.proofs.ProofNames.{filter, get_or, leb, length, length-append, length-drop, length-take-le, not}
use Rattle.cap_spec.proofs.ProofNames.{refl, replicate, suc, sym, take, take-append-drop, take_all, ℕ, ◌++◌, ◌+◌, ◌-◌}
use Rattle.cap_spec.proofs.ProofNames.{◌<◌, ◌==◌, ◌∙◌, ◌∷◌, ◌≡◌, ◌≢◌, ◌≤◌, length-replicate, replicate-append-replicate}
use Rattle.cap_spec.proofs.ProofNames.{take_rest, take-put_mid, prefix_len, put_mid, full_run, group_size, pack_text}
use Rattle.cap_spec.proofs.ProofNames.{tag_of, zero_bytes, zero_run, plain_text, word_bytes, common_steps, rules}
use Rattle.cap_pack.specs.Holding.{IsRun, Encodes, first_zeros, held}
use Rattle.cap_pack.specs.declared.group.Group.{Group}
use Rattle.cap_pack.specs.declared.group.Group.TheVariants.{Plain}
use Rattle.cap_pack.proofs.Runs.{run, run_is}

-- each element of the front that passes does
passes_more : (p : ℕ → Bool) (t : Bool) (x n m : ℕ) (xs : List ℕ) → p x ≡ t → suc n ≤ cond t (1 + m) 0 → (n ≤ m → prefix_len p (take n xs) ≡ n) →
    prefix_len p (x ∷ take n xs) ≡ suc n
passes_more p x u n m xs e h k = search rules

front_passes : (p : ℕ → Bool) (n : ℕ) (xs : List ℕ) → n ≤ prefix_len p xs → prefix_len p (take n xs) ≡ n
front_passes p (suc n) (x ∷ xs) h = passes_more p (p x) x n (prefix_len p xs) xs refl h (front_passes p n xs)
front_passes p n xs h = search rules

-- what is after the front doesn't pass
stops_more : (p : ℕ → Bool) (t : Bool) (x : ℕ) (xs ys : List ℕ) → p x ≡ t → (prefix_len p xs < length xs → prefix_len p (drop (prefix_len p xs) xs ++ ys) ≡ 0) →
    cond t (1 + prefix_len p xs) 0 < suc (length xs) → prefix_len p (drop (cond t (1 + prefix_len p xs) 0) (x ∷ xs) ++ ys) ≡ 0
stops_more p x u xs ys e k h = search rules

stops_after : (p : ℕ → Bool) (xs ys : List ℕ) → prefix_len p xs < length xs → prefix_len p (drop (prefix_len p xs) xs ++ ys) ≡ 0
stops_after p [] ys h = absurd (omega arith)
stops_after p (x ∷ xs) ys h = stops_more p (p x) x xs ys refl (stops_after p xs ys) h

-- the same of the length of a run
pub run_takes : (p : ℕ → Bool) (n : ℕ) (xs : List ℕ) → n ≤ run p xs → run p (take n xs) ≡ n
run_takes p n xs h = run_is p (take n xs) ∙ front_passes p n xs (omega (arith, run_is p xs))

pub run_stops : (p : ℕ → Bool) (xs ys : List ℕ) (n : ℕ) → n ≡ run p xs → n < length xs → run p (drop n xs ++ ys) ≡ 0
run_stops p xs ys n e h = search (rules, run_is, stops_after)

-- this many more zero words in a run
pub zeros_joined : (more n : ℕ) (xs : List ℕ) → n ≤ zero_run xs → 0 ∷ replicate (more + n) 0 ≡ (0 ∷ replicate more 0) ++ take n xs
zeros_joined more n xs h = ap (λ (l : List ℕ). 0 ∷ l) (sym (replicate-append-replicate more n 0) ∙ ap (λ l. replicate more 0 ++ l) (sym (zero_front n xs h)))

pub zeros_one : (more : ℕ) → more ≤ 255 → group_size (0 ∷ replicate more 0) ≡ suc (length (replicate {A = ℕ} more 0))
zeros_one more h =
    let whole : group_size (0 ∷ replicate more 0) ≡ 1 + more = ap (λ (l : List ℕ). group_size (0 ∷ l)) (sym (append-nil (replicate more 0)))
    ∙ group_size-zeros more [] h (λ _. refl) in
    omega (arith, whole, length-replicate {A = ℕ} more 0)

-- a word without a zero byte, and words with at most one
pub full_one : (x : ℕ) (more : List ℕ) → zero_bytes x ≡ 0 → full_run more ≡ length more → length more ≤ 255 → group_size (x ∷ more) ≡ suc (length more)
full_one x more z f h = search (rules, append-nil, group_size-plain)

pub full_joined : (xs ys : List ℕ) (n : ℕ) → full_run xs ≡ length xs → n ≤ full_run ys → n ≤ length ys → full_run (xs ++ take n ys) ≡ length (xs ++ take n ys)
full_joined xs ys n f h l = search (rules, front-append, run_takes, length-take-le, length-append)

-- a run of zero words that ended inside the piece
pub zeros_encoded : (w k : ℕ) (xs : List ℕ) → w ≡ 0 → k ≡ zero_run xs → k < length xs → k ≤ 255 → Encodes (w ∷ xs) (0 ∷ k ∷ []) (drop k xs)
zeros_encoded w k xs e r h few = λ ws.
    let rest = drop k xs ++ ws in
    let front : take k xs ≡ replicate k 0 = zero_front k xs (omega arith) in
    let split : w ∷ (xs ++ ws) ≡ 0 ∷ (replicate k 0 ++ rest) =
    search (rules, take-append-drop k xs, append_assoc (take k xs) (drop k xs) ws) in
    ap pack_text split ∙ pack_text-zeros k rest few (λ _. run_stops (λ x. x == 0) xs ws k r h)

-- a run of words as they are that ended inside the piece
pub full_encoded : (w k : ℕ) (xs : List ℕ) → zero_bytes w ≡ 0 → k ≡ full_run xs → k < length xs → k ≤ 255 →
    Encodes (w ∷ xs) (255 ∷ (word_bytes w ++ length (take k xs) ∷ plain_text (take k xs))) (drop k xs)
full_encoded w k xs z r h few = λ ws.
    let rest = drop k xs ++ ws in
    let long : length (take k xs) ≡ k = length-take-le k xs (omega arith) in
    let full : full_run (take k xs) ≡ length (take k xs) = run_takes (λ x. leb (zero_bytes x) 1) k xs (omega arith) ∙ sym long in
    let split : w ∷ (xs ++ ws) ≡ w ∷ (take k xs ++ rest) = search (rules, take-append-drop k xs, append_assoc (take k xs) (drop k xs) ws) in
    ap pack_text split ∙ pack_text-plain w (take k xs) rest z full (omega (arith, long)) (λ _. run_stops (λ x. leb (zero_bytes x) 1) xs ws k r h)

-- any other word
pub marked_encoded : (w : ℕ) (xs : List ℕ) → w ≢ 0 → zero_bytes w ≢ 0 → Encodes (w ∷ xs) (tag_of (word_bytes w) ∷ filter (λ b. not (b == 0)) (word_bytes w)) xs
marked_encoded w xs n z = λ ws. pack_text-marked w (xs ++ ws) n z

-- The groups so far and one more.
pub more_encoded : (front next text : List ℕ) (all : List ℕ → List ℕ) (left less : List ℕ) → next ≡ front ++ text → Encodes left text less →
    ((ws : List ℕ) → all ws ≡ front ++ pack_text (left ++ ws)) → (ws : List ℕ) → all ws ≡ next ++ pack_text (less ++ ws)
more_encoded front next text all left less e s h = search (rules, append_assoc)

-- a run of zero words that took n more of these words
pub zeros_apart : (more n : ℕ) (xs : List ℕ) → more + n ≤ 255 → (more + n < 255 → n ≡ zero_run xs) → n < length xs →
    Encodes ((0 ∷ replicate (more + n) 0) ++ drop n xs) (0 ∷ (more + n) ∷ []) (drop n xs)
zeros_apart more n xs few all h = search (rules, append_assoc, pack_text-zeros, run_stops)

-- a run of words as they are that did
pub full_apart : (first n : ℕ) (more xs : List ℕ) → zero_bytes first ≡ 0 → full_run more ≡ length more → length more ≤ 255 →
    (length more < 255 → n ≡ full_run xs) → n < length xs →
    Encodes ((first ∷ more) ++ drop n xs) (255 ∷ (word_bytes first ++ length more ∷ plain_text more)) (drop n xs)
full_apart first n more xs z f few all h = λ ws.
    ap pack_text (append_assoc (first ∷ more) (drop n xs) ws)
    ∙ pack_text-plain first more (drop n xs ++ ws) z f few (λ l. run_stops (λ x. leb (zero_bytes x) 1) xs ws n (all l) h)

-- what a run of words as they are holds
pub plain_held : (g : Group) (words : List ℕ) (first more : ℕ) → g ≡ Plain first more → group_size (held g words) ≡ length (held g words) → first_zeros g ≡ 0 →
    (zero_bytes first ≡ 0) × (full_run (take more words) ≡ length (take more words)) × (length (take more words) ≤ 255)
plain_held g words first more e one full = search (rules, plain_full)

-- the words after the first after n more were written
pub more_written : (words piece xs : List ℕ) (more n k end : ℕ) → piece ≡ take n xs → n ≤ length xs → more ≤ length words → end ≡ more + n →
    take end (put_mid more k words piece) ≡ take more words ++ take n xs
more_written words piece xs more n k end e h l m = search (rules, length-take-le, take-put_mid)

-- a run of words as they are after n more of these words were written after it
pub record Extended (first : ℕ) (now front xs : List ℕ) (n count : ℕ) : Type 0 where
  pub whole : now ≡ front ++ take n xs
  pub zero : zero_bytes first ≡ 0
  pub full : full_run now ≡ length now
  pub many : length now ≡ count

pub plain_extended : (g : Group) (words piece xs : List ℕ) (first more n k end : ℕ) → g ≡ Plain first more →
    group_size (held g words) ≡ length (held g words) → first_zeros g ≡ 0 →
    length words ≡ 255 → end ≤ 255 → end ≡ more + n → piece ≡ take n xs → n ≤ full_run xs →
    Extended first (take end (put_mid more k words piece)) (take more words) xs n end
plain_extended g words piece xs first more n k end e one full long most m copied run =
    let h = plain_held g words first more e one full in
    let few : n ≤ length xs = omega (arith, run, front-le (λ x. leb (zero_bytes x) 1) xs) in
    let whole = more_written words piece xs more n k end copied few (omega (arith, long, most, m)) m in
    search (rules, full_joined, run, length-append, length-take-le)

-- words of a run that begins with a zero word
pub run_zeros : (ws : List ℕ) → IsRun ws → 0 < length ws → get_or ws 0 0 ≡ 0 → 0 ∷ replicate (length ws - 1) 0 ≡ ws
run_zeros [] r h e = absurd (omega (arith, h))
run_zeros (w ∷ ws) r h e = grind (arith, common_steps, zero_front, take_all, nonzero_word)

-- what the groups do that end inside the words of a piece
moved_after : (words : List ℕ) (at k : ℕ) → drop k (drop (at + 1) words) ≡ drop (at + (1 + k)) words
moved_after words at k = let same : at + 1 + k ≡ at + (1 + k) = omega arith in drop-drop k (at + 1) words ∙ ap (λ n. drop n words) same

ends_inside : (p : ℕ → Bool) (words : List ℕ) (at k : ℕ) → at < length words → k ≡ run p (drop (at + 1) words) → at + 1 + k ≢ length words →
    k < length (drop (at + 1) words)
ends_inside p words at k h r n = search (rules, front-le, length-drop)

pub zeros_step : (words : List ℕ) (at k : ℕ) → at < length words → length words ≤ 64 → get_or words at 0 ≡ 0 →
    k ≡ zero_run (take (length words - (at + 1)) (drop (at + 1) words)) →
    at + 1 + k ≢ length words → (k < length (drop (at + 1) words)) × Encodes (drop at words) (0 ∷ k ∷ []) (drop (at + (1 + k)) words)
zeros_step words at k h few e r n =
    grind (arith, common_steps, take_rest, ends_inside, zeros_encoded, length-drop, drop_more, moved_after)

pub full_step : (words more : List ℕ) (at k j : ℕ) → at < length words → length words ≤ 64 → zero_bytes (get_or words at 0) ≡ 0 →
    k ≡ full_run (take (length words - (at + 1)) (drop (at + 1) words)) →
    at + 1 + k ≢ length words → more ≡ take j (drop (at + 1) words) → j ≡ k →
    (k < length (drop (at + 1) words))
    × Encodes (drop at words) (255 ∷ (word_bytes (get_or words at 0) ++ length more ∷ plain_text more)) (drop (at + (1 + k)) words)
full_step words more at k j h few z r n m same =
    grind (arith, common_steps, take_rest, ends_inside, full_encoded, length-drop, drop_more, moved_after)

pub marked_step : (words : List ℕ) (at : ℕ) → at < length words → get_or words at 0 ≢ 0 → zero_bytes (get_or words at 0) ≢ 0 →
    Encodes (drop at words) (tag_of (word_bytes (get_or words at 0)) ∷ filter (λ b. not (b == 0)) (word_bytes (get_or words at 0))) (drop (at + 1) words)
marked_step words at h n z = search (rules, drop_more, marked_encoded)

-- what a whole piece does: words that join the open group, and the groups after it
pub piece_encoded : (before : List ℕ) {now : List ℕ} (xs : List ℕ) {piece front group : List ℕ} (text left : List ℕ) (j : ℕ) → now ≡ before ++ take j xs →
    Encodes (now ++ drop j xs) group (drop j xs) → front ≡ group → piece ≡ drop j xs →
    ((ws : List ℕ) → front ++ pack_text (piece ++ ws) ≡ text ++ pack_text (left ++ ws)) → (ws : List ℕ) →
    pack_text (before ++ (xs ++ ws)) ≡ text ++ pack_text (left ++ ws)
piece_encoded before xs text left j joined apart f p encoded ws = search (rules, take-append-drop, append_assoc)

-- the words after those that were encoded
pub left_after : (xs : List ℕ) (j k : ℕ) → drop k (take (length xs - j) (drop j xs)) ≡ take (length xs - (j + k)) (drop (j + k) xs)
left_after xs j k = ap (drop k) (take_rest xs j) ∙ drop-drop k j xs ∙ sym (take_rest xs (j + k))

-- a piece of words and those after it
pub piece_split : (xs : List ℕ) (done end : ℕ) → done ≤ end → drop done xs ≡ take (end - done) (drop done xs) ++ drop end xs
piece_split xs done end h = search (rules, take-append-drop (end - done) (drop done xs), drop-drop (end - done) done xs)
