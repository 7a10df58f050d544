-- A message that more words belong to, and the end of one.
use Rattle.cap_spec.proofs.Frames.Endings.{frame_some}
use Rattle.cap_spec.proofs.Frames.OneEnding.{one_ending}
use Rattle.cap_spec.proofs.ProofNames.{Err, List, Option, Result, [], ap, append_assoc, arith, inl, inr, length, rules}
use Rattle.cap_spec.proofs.ProofNames.{length-append, length-take-le, refl, sum, sym, take, ℕ, ◌%◌, ◌*◌, ◌++◌, ◌+◌, ◌-◌}
use Rattle.cap_spec.proofs.ProofNames.{◌/◌, ◌<◌, ◌^◌, ◌∙◌, ◌∷◌, ◌≡◌, ◌≤◌, take-append-add, cases_lt, false≢true}
use Rattle.cap_spec.proofs.ProofNames.{nil_from_length, put_mid, BeginsMessage, message, partial, too_large, too_many}
use Rattle.cap_spec.proofs.ProofNames.{IsPartial, in_contents, in_table, in_word, plain_is_cut, plain_words}
use Rattle.cap_words.proofs.Filling.{plain_join}
use Rattle.cap_words.proofs.Turns.{filled}
use Rattle.cap_frame.specs.Framed.{ReportsFront}
use Rattle.cap_frame.specs.Fronts.{IsFront, GivesLarge, GivesMany, a_frame, a_table, table_words}
use Rattle.cap_frame.specs.declared.fault.FrontFault.TheVariants.{Truncated}
use Rattle.cap_frame.proofs.Cuts.{words_inside}
use Rattle.cap_frame.proofs.FrontAnswers.{short_answer}
use Rattle.cap_frame.proofs.Parts.{take_words}
use Rattle.cap_calls.specs.MessageStages.{CannotAppend}
use Rattle.cap_calls.specs.CallNames.{FrontFault, Framed, words_to_come, IsOpen, Stage}
use Rattle.cap_calls.specs.declared.packed_stream.Given.{Given}
use Rattle.cap_calls.proofs.Packed.{whole_by_length}

abbrev Fault : ℕ → Result (Option Framed) FrontFault
Fault n = Err (Truncated n)

same_needed : (a b : ℕ) → Fault a ≡ Fault b → a ≡ b
same_needed a b e = cc

-- With more words, but fewer bytes than needed, the message is still open.
pub open_longer : (limit needed : ℕ) (held longer words : List ℕ) → length held % 8 ≡ 0 → length longer % 8 ≡ 0
    → plain_words longer ≡ plain_words held ++ words → length longer < needed → IsOpen limit held needed
    → IsOpen limit longer needed
open_longer limit needed held longer words h i e few (inl none) = search (rules, nil_from_length)
open_longer limit needed held longer words h i e few (inr t) = inr (further t.0)
  where
    further : IsPartial limit (plain_words held) (plain_is_cut held) → ReportsFront limit longer (Fault needed)
    further (in_word none cut) = absurd (false≢true (sym (whole_by_length held h) ∙ cut))
    further (in_table first rest w many short) =
        let need : ℕ = 8 * table_words (first % 2 ^ 32 + 1) in
        let same : needed ≡ need =
        same_needed needed need (short_answer limit held (Fault needed) need t.0 (a_table first rest w short refl) t) in
        let whole : plain_words longer ≡ first ∷ (rest ++ words) = e ∙ ap (λ (l : List ℕ). l ++ words) w in
        let less : length (rest ++ words) < (first % 2 ^ 32 + 1) / 2 =
        omega (arith, same, few, words_inside longer, ap length whole) in
        (in_table first (rest ++ words) whole many less, a_table first (rest ++ words) whole less same, few, t.3)
    further (in_contents table sizes rest w s within short) =
        let need : ℕ = 8 * (length table + sum sizes) in
        let same : needed ≡ need =
        same_needed needed need (short_answer limit held (Fault needed) need t.0 (a_frame table sizes rest w s refl) t) in
        let whole : plain_words longer ≡ table ++ (rest ++ words) =
        e ∙ (ap (λ (l : List ℕ). l ++ words) w ∙ append_assoc table rest words) in
        let less : length (rest ++ words) < sum sizes =
        omega (arith, same, few, words_inside longer, ap length whole, length-append table (rest ++ words)) in
        (in_contents table sizes (rest ++ words) whole s within less, a_frame table sizes (rest ++ words) whole s same, few, t.3)

-- No bytes are open and begin a whole message.
pub open_not_whole : (limit needed n : ℕ) (held : List ℕ) (m : List (List ℕ)) → IsOpen limit held needed → IsFront limit held m n → ⊥
open_not_whole limit needed n held m (inl none) f = search (rules, frame_some f.own m f.frames, length-append f.own f.rest, words_inside held)
open_not_whole limit needed n held m (inr t) f =
    let b : BeginsMessage limit (plain_words held) = record
    { own = f.own; rest = f.rest; message = m; whole = f.words; frames = f.frames; within = f.within } in
    (let e = one_ending limit (plain_words held) (plain_is_cut held) message partial b t.0 in cc)

-- A whole message at the start of bytes is one at the start of any prefix that has all of it.
front_within : (limit n j : ℕ) (held : List ℕ) (m : List (List ℕ)) → n ≤ j → j % 8 ≡ 0 → IsFront limit held m n
    → IsFront limit (take j held) m n
front_within limit n j held m less eight f =
    let k = j / 8 in
    let at : j ≡ 8 * k = omega (arith, eight) in
    let long : length f.own ≤ k = omega (arith, f.long, less) in
    let more : k ≡ length f.own + (k - length f.own) = omega (arith, long) in
    record {
      own = f.own;
      rest = take (k - length f.own) f.rest;
      words =
          ap (λ (i : ℕ). plain_words (take i held)) at
          ∙ (sym (take_words k held)
          ∙ (ap (take k) f.words
          ∙ (ap (λ (i : ℕ). take i (f.own ++ f.rest)) more ∙ take-append-add f.own f.rest (k - length f.own))));
      frames = f.frames;
      within = f.within;
      long = f.long;
    }

-- A message that was open before its last word, and not whole at the start, is all of the bytes.
pub all_of_message : (limit start n : ℕ) (held : List ℕ) (m : List (List ℕ)) → start % 8 ≡ 0
    → ((k : ℕ) → start ≤ k → k < length held → k % 8 ≡ 0 → (needed : ℕ) × IsOpen limit (take k held) needed)
    → ((m : List (List ℕ)) (n : ℕ) → ¬ IsFront limit (take start held) m n) → IsFront limit held m n → n ≡ length held
all_of_message limit start n held m eight before unfinished f =
    let inside : n ≤ length held =
    omega (arith, f.long, words_inside held, ap length f.words, length-append f.own f.rest) in
    let whole : n % 8 ≡ 0 = omega (arith, f.long) in
    elim (cases_lt n (length held)) [
      | inl less ↦ elim (cases_lt n start) [
        | inl before ↦ absurd (unfinished m n (front_within limit n start held m (omega (arith, before)) eight f))
        | inr after ↦
            let goes_on = before n after less whole in
            absurd (open_not_whole limit goes_on.0 n (take n held) m goes_on.1
            (front_within limit n n held m (omega arith) whole f))
      ]
      | inr all ↦ omega (arith, inside, all)
    ]

-- A message is open up to the bytes that it needs.
pub still_open : (limit needed at k n : ℕ) (out given : List ℕ) → at % 8 ≡ 0 → n % 8 ≡ 0 → at ≤ n → n ≤ at + length given → n < needed
    → at ≤ length out → IsOpen limit (take at out) needed → IsOpen limit (take n (put_mid at k out given)) needed
still_open limit needed at k n out given whole eight from within less inside o =
    let m = n - at in
    let sum_is : n ≡ at + m = omega (arith, from) in
    let few : m ≤ length given = omega (arith, within) in
    let text : take n (put_mid at k out given) ≡ take at out ++ take m given =
    ap (λ (i : ℕ). take i (put_mid at k out given)) sum_is ∙ filled k out given inside few in
    let front : length (take at out) ≡ at = length-take-le at out inside in
    let long : length (take n (put_mid at k out given)) ≡ n =
    omega (arith, ap length text, length-append (take at out) (take m given), front, length-take-le m given few, sum_is) in
    open_longer limit needed (take at out) (take n (put_mid at k out given)) (plain_words (take m given)) (omega (arith, front, whole))
    (omega (arith, long, eight)) (ap plain_words text ∙ plain_join (take at out) (take m given) (omega (arith, front, whole)))
    (omega (arith, long, less)) o

-- It needs whole words.
pub needed_whole : (limit needed : ℕ) (held : List ℕ) → IsOpen limit held needed → needed % 8 ≡ 0
needed_whole limit needed held h = search rules

-- how a call ends at any stage
pub ends_at : (stage : Stage) (size : ℕ) (g : Given) (rest : List ℕ)
    → (g.written + 8 ≤ size → words_to_come g.zeros g.literal rest ≡ []) → CannotAppend stage size g rest
ends_at stage size g rest h = search rules

-- A message that is too large, or has too many segments, is not whole.
pub many_not_whole : (limit count n : ℕ) (held : List ℕ) (m : List (List ℕ)) → GivesMany held count → IsFront limit held m n → ⊥
many_not_whole limit count n held m t f =
    let b : BeginsMessage limit (plain_words held) = record
    { own = f.own; rest = f.rest; message = m; whole = f.words; frames = f.frames; within = f.within } in
    (let e = one_ending limit (plain_words held) (plain_is_cut held) message too_many b t.0 in cc)

pub large_not_whole : (limit words n : ℕ) (held : List ℕ) (m : List (List ℕ)) → GivesLarge limit held words → IsFront limit held m n → ⊥
large_not_whole limit words n held m t f =
    let b : BeginsMessage limit (plain_words held) = record
    { own = f.own; rest = f.rest; message = m; whole = f.words; frames = f.frames; within = f.within } in
    (let e = one_ending limit (plain_words held) (plain_is_cut held) message too_large b t.0 in cc)
