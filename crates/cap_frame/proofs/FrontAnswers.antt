-- What holds of the bytes decides what is found at their start.
use Rattle.cap_spec.proofs.ProofNames.{rules}
use Rattle.std.proofs.Common.{Err, IsOkAnd, IsSomeAnd, List, None, Ok, Option, Result, Some, [], ap, false, length}
use Rattle.std.proofs.Common.{refl, subst, sum, sym, ℕ, ◌%◌, ◌*◌, ◌+◌, ◌^◌, ◌∙◌, ◌≡◌}
use Rattle.cap_spec.specs.Endings.{BeginsMessage, Ending, EndsIn, message, none, partial, too_large, too_many}
use Rattle.cap_spec.specs.Frames.{IsPartial}
use Rattle.cap_spec.specs.Plain.{plain_is_cut, plain_words}
use Rattle.cap_spec.proofs.Frames.Endings.{no_table, table_whole}
use Rattle.cap_spec.proofs.Lemmas.{one_frame, same_table, one_ending}
use Rattle.cap_frame.specs.Framed.{DecidesFront, ReportsFront, frame_bytes, framed_segments}
use Rattle.cap_frame.specs.Fronts.{IsFront, GivesLarge, GivesMany, Needs, a_frame, a_table, a_word}
use Rattle.cap_frame.specs.declared.fault.FrontFault.{FrontFault}
use Rattle.cap_frame.specs.declared.fault.FrontFault.TheVariants.{TooLarge, TooManySegments, Truncated}
use Rattle.cap_frame.specs.declared.framed.Framed.{Framed}

-- words want one number of bytes
one_needed : (ws : List ℕ) (a b : ℕ) → Needs ws a → Needs ws b → a ≡ b
one_needed ws a b (a_word e h) (a_word f k) = h ∙ sym k
one_needed ws a b (a_word e h) (a_table first rest f l k) = absurd (cc)
one_needed ws a b (a_word e h) (a_frame table sizes rest f t k) = absurd (no_table table rest sizes t (sym e ∙ f))
one_needed ws a b (a_table first rest e l h) (a_word f k) = absurd (cc)
one_needed ws a b (a_table first rest e l h) (a_table other more f m k) = search rules
one_needed ws a b (a_table first rest e l h) (a_frame table sizes more f t k) = absurd (table_whole table more sizes first rest t (sym e ∙ f) l)
one_needed ws a b (a_frame table sizes rest e t h) (a_word f k) = absurd (no_table table rest sizes t (sym f ∙ e))
one_needed ws a b (a_frame table sizes rest e t h) (a_table first more f l k) = absurd (table_whole table rest sizes first more t (sym f ∙ e) l)
one_needed ws a b (a_frame table sizes rest e t h) (a_frame other counts more f u k) = search (rules, same_table table other rest more sizes counts t u (sym e ∙ f))

module _ (limit : ℕ) (bs : List ℕ) where
  -- what is found, as ways in which reading a message of the words ends
  abbrev begins : (m : List (List ℕ)) (n : ℕ) → IsFront limit bs m n → BeginsMessage limit (plain_words bs)
  begins m n f = record { own = f.own; rest = f.rest; message = m; whole = f.words; frames = f.frames; within = f.within }

  ends : bs ≡ [] → (plain_words bs ≡ []) × (plain_is_cut bs ≡ false)
  ends e = (ap plain_words e, ap plain_is_cut e)

  abbrev ending_of : Result (Option Framed) FrontFault → Ending
  ending_of (Ok (Some f)) = message
  ending_of (Ok None) = none
  ending_of (Err (TooManySegments count)) = too_many
  ending_of (Err (TooLarge words)) = too_large
  ending_of (Err (Truncated needed)) = partial

  reported : (r : Result (Option Framed) FrontFault) → ReportsFront limit bs r → EndsIn limit (plain_words bs) (plain_is_cut bs) (ending_of r)
  reported (Err (Truncated needed)) t = t.0
  reported r t = search rules

  -- what the result is where they end so
  abbrev Is : (e : Ending) → EndsIn limit (plain_words bs) (plain_is_cut bs) e → Result (Option Framed) FrontFault → Type 0
  Is message b r = IsOkAnd r (λ o. IsSomeAnd o (λ f. (framed_segments f ≡ b.message) × (frame_bytes f ≡ 8 * length b.own)))
  Is none b r = r ≡ Ok None
  Is too_many b r = r ≡ Err (TooManySegments (b.first % 2 ^ 32 + 1))
  Is too_large b r = r ≡ Err (TooLarge (sum b.sizes))
  Is partial b r = (needed : ℕ) → Needs (plain_words bs) needed → r ≡ Err (Truncated needed)

  claim : (r : Result (Option Framed) FrontFault) → ReportsFront limit bs r → (h : EndsIn limit (plain_words bs) (plain_is_cut bs) (ending_of r))
      → Is (ending_of r) h r
  claim (Ok (Some f)) t b = search (rules, one_frame t.own b.own t.rest b.rest (framed_segments f) b.message t.frames b.frames (sym t.words ∙ b.whole))
  claim (Ok None) t b = refl
  claim (Err (TooManySegments count)) t b = search rules
  claim (Err (TooLarge words)) t b = search (rules, same_table t.0.table b.table t.0.rest b.rest t.0.sizes b.sizes t.0.is_table b.is_table (sym t.0.whole ∙ b.whole))
  claim (Err (Truncated other)) t b = λ needed w. ap (λ (k : ℕ). Err (Truncated k)) (one_needed (plain_words bs) other needed t.1 w)

  -- they end so in no other way
  settled : (r : Result (Option Framed) FrontFault) (e : Ending) (h : EndsIn limit (plain_words bs) (plain_is_cut bs) e) → ReportsFront limit bs r → Is e h r
  settled r e h t =
      subst (λ (i : Ending). (h : EndsIn limit (plain_words bs) (plain_is_cut bs) i) → Is i h r)
      (sym (one_ending limit (plain_words bs) (plain_is_cut bs) (ending_of r) e (reported r t) h)) (claim r t) h

  -- where a prefix of the bytes frames a message within the limit, that is the result
  pub whole_answer : (r : Result (Option Framed) FrontFault) (m : List (List ℕ)) (n : ℕ) → IsFront limit bs m n → ReportsFront limit bs r
      → IsOkAnd r (λ o. IsSomeAnd o (λ f. (framed_segments f ≡ m) × (frame_bytes f ≡ n)))
  whole_answer r m n w t = search (rules, settled r message (begins m n w) t)

  -- where there are no bytes, there is no message
  pub empty_answer : (r : Result (Option Framed) FrontFault) → bs ≡ [] → ReportsFront limit bs r → r ≡ Ok None
  empty_answer r e t = settled r none (ends e) t

  -- where the first word gives too many segments, that is the result
  pub many_answer : (r : Result (Option Framed) FrontFault) (count : ℕ) → GivesMany bs count → ReportsFront limit bs r → r ≡ Err (TooManySegments count)
  many_answer r count w t = settled r too_many w.0 t ∙ ap (λ (k : ℕ). Err (TooManySegments k)) (sym w.1)

  -- where a table is past the limit, that is the result
  pub large_answer : (r : Result (Option Framed) FrontFault) (words : ℕ) → GivesLarge limit bs words → ReportsFront limit bs r → r ≡ Err (TooLarge words)
  large_answer r words w t = settled r too_large w.0 t ∙ ap (λ (k : ℕ). Err (TooLarge k)) (sym w.1)

  -- where the bytes end inside a frame, the result is how many are needed
  pub short_answer : (r : Result (Option Framed) FrontFault) (needed : ℕ) → IsPartial limit (plain_words bs) (plain_is_cut bs)
      → Needs (plain_words bs) needed → ReportsFront limit bs r → r ≡ Err (Truncated needed)
  short_answer r needed p w t = settled r partial p t needed w

  -- so the bytes decide the result
  pub decides_front : (r : Result (Option Framed) FrontFault) → ReportsFront limit bs r → DecidesFront limit bs r
  decides_front r t = search (rules, whole_answer, empty_answer, many_answer, large_answer, short_answer)
