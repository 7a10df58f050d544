-- Where no step goes on, no path does.
use Rattle.std.proofs.lemmas.Result.{err_from_is_err_and}
use Rattle.cap_spec.specs.declared.Step.{Step}
use Rattle.cap_spec.specs.declared.Step.TheVariants.{Ptr, Item as item}
use Rattle.cap_spec.proofs.ProofNames.{IfErr, Result, arith, length, subst, sym, ℕ, ◌+◌, ◌<◌, IsBadAt, rules, Bool}
use Rattle.cap_spec.proofs.ProofNames.{List, None, Option, [], ap, append_assoc, decimal, false, flat_map, get_or}
use Rattle.cap_spec.proofs.ProofNames.{if◌then◌else◌, length-take-le, ne_eqb, refl, take, true, ◌++◌, ◌∙◌, ◌∷◌, ◌≡◌}
use Rattle.cap_spec.proofs.ProofNames.{◌≢◌, ◌≤◌, take_more, AllByRecursion, IsStep, step_text}
use Rattle.cap_path.proofs.ReadSteps.{Item, Pointer, HasRead, IsReading, Number, Reading, Slash, item_number, next_of}
use Rattle.cap_path.proofs.ReadSteps.{pointer_number, reading_text, encodes_more}
use Rattle.cap_path.specs.PathReading.{IsBadNumber, is_digit, no_digit, no_end, number_with}
use Rattle.cap_path.proofs.PathReading.{Unfinished, bad_here, stops}
use Rattle.cap_path.proofs.reading.step_at.Goals as goal

-- Where no path goes on with the step that is read.
-- how a step is encoded by a letter and a number, and read
pub record IsEncoded (letter most : ℕ) (r : Reading) (make : ℕ → Step) : Type 0 where
  pub begins : reading_text r ≡ 47 ∷ letter ∷ []
  pub encodes : (n : ℕ) → step_text (make n) ≡ 47 ∷ letter ∷ decimal n
  pub fits : (n : ℕ) → n ≤ most → IsStep (make n)
  pub reads : (done : List Step) → IsReading done r × Unfinished done r
  pub first : (b : ℕ) → is_digit b ≡ false → next_of r b ≡ None
  pub later : (n b : ℕ) → b ≢ 47 → number_with n b most ≡ None → next_of (Number (make n)) b ≡ None

later_ptr : (t : Bool) (o : Option ℕ) → (if t then o else None) ≡ None → (if t then pointer_number o else None) ≡ None
later_ptr true o e = ap pointer_number e
later_ptr false o e = refl

later_item : (t : Bool) (o : Option ℕ) → (if t then o else None) ≡ None → (if t then item_number o else None) ≡ None
later_item true o e = ap item_number e
later_item false o e = refl

pointers : IsEncoded 112 65535 Pointer Ptr
pointers = search (rules, ne_eqb, later_ptr)

items : IsEncoded 105 4294967295 Item item
items = search (rules, ne_eqb, later_item)

-- A slash and a letter are read,
letter_read : (text : List ℕ) (slash letter : ℕ) → slash + 1 < length text → get_or text slash 0 ≡ 47
    → get_or text (slash + 1) 0 ≡ letter → take (slash + 1 + 1) text ≡ take slash text ++ 47 ∷ letter ∷ []
letter_read text slash letter lt here is = search (rules, take_more text (slash + 1) 0 lt, take_more text slash 0 (omega (arith, lt)), encodes_more)

-- and then a number.
step_read : (text : List ℕ) (slash letter n end : ℕ) (s : Step) → slash + 1 < length text → get_or text slash 0 ≡ 47
    → get_or text (slash + 1) 0 ≡ letter → step_text s ≡ 47 ∷ letter ∷ decimal n
    → take end text ≡ take (slash + 1 + 1) text ++ decimal n → take end text ≡ take slash text ++ step_text s
step_read text slash letter n end s lt here is encoded e = search (rules, letter_read text slash letter lt here is, append_assoc (take slash text) (47 ∷ letter ∷ []) (decimal n))

module _ (text : List ℕ) (slash : ℕ) (done : List Step) (lt : slash < length text) (here : get_or text slash 0 ≡ 47)
    (are : AllByRecursion IsStep done) (before : take slash text ≡ flat_map step_text done) where
  read_on : (end : ℕ) (r : Reading) → IsReading done r → take end text ≡ take slash text ++ reading_text r
      → HasRead (take end text) done r
  read_on end r fits e = record { are = are; fits = fits; encodes = e ∙ ap (λ l. l ++ reading_text r) before }

  some_done : 1 < length text → slash + 1 ≡ length text → 0 < length done
  some_done long e = go done before
    where
      go : (steps : List Step) → take slash text ≡ flat_map step_text steps → 0 < length steps
      go [] f = absurd (omega (arith, e, long, ap length f, length-take-le slash text (omega (arith, lt))))
      go (s ∷ steps) f = omega arith

  -- The letter is missing, or is none.
  pub bad_letter : 1 < length text
      → (slash + 1 < length text → (get_or text (slash + 1) 0 ≢ 112) × (get_or text (slash + 1) 0 ≢ 105)) → IsBadAt text (slash + 1)
  bad_letter long none =
      let h = read_on (slash + 1) Slash tt (take_more text slash 0 lt ∙ ap (λ k. take slash text ++ k ∷ []) here) in
      stops text (slash + 1) done Slash (omega (arith, lt)) h (λ e. some_done long e)
      (λ more. rw (ne_eqb (get_or text (slash + 1) 0) 112 (none more).0, ne_eqb (get_or text (slash + 1) 0) 105 (none more).1) refl)

  -- There is no number.
  pub bad_number : (letter most at : ℕ) (r : Reading) (make : ℕ → Step) → IsEncoded letter most r make
      → slash + 1 < length text → get_or text (slash + 1) 0 ≡ letter → IsBadNumber text (slash + 1 + 1) most at → IsBadAt text at
  bad_number letter most at r make s more is (no_digit e none) =
      let read = letter_read text slash letter more here is ∙ ap (λ l. take slash text ++ l) (sym s.begins) in
      let h = subst (λ (n : ℕ). HasRead (take n text) done r) (sym e) (read_on (slash + 1 + 1) r (s.reads done).0 read) in
      stops text at done r (omega (arith, e, more)) h (λ _. (s.reads done).1) (λ less. s.first (get_or text at 0) (none less))
  bad_number letter most at r make s more is (no_end n few less e other none) =
      let read = step_read text slash letter n at (make n) more here is (s.encodes n) e in
      bad_here text at done (Number (make n)) (read_on at (Number (make n)) (s.fits n few) read)
      (s.later n (get_or text at 0) other none) less

pub returns-then-letter-text-clause-bad : goal.returns-then-letter-text-clause-bad
returns-then-letter-text-clause-bad c = λ before are e long.
    bad_letter c.args.text.now c.args.slash before c.requires.inside c.requires.slash are e long
    (λ more. absurd (omega (arith, more, c.if-letter-text.true)))

pub returns-in_err-number-in-112-clause-bad : goal.returns-in_err-number-in-112-clause-bad
returns-in_err-number-in-112-clause-bad c = λ before are e long.
    let text = c.args.text.now in
    let at = c.in_err-number-in-112.field-0.0 in
    let more : c.args.slash + 1 < length text = omega arith in
    let bad = bad_number text c.args.slash before c.requires.inside c.requires.slash are e 112 65535 at Pointer Ptr pointers more
    c.in-112.is c.in_err-number-in-112.ensures.bad in
    let is = err_from_is_err_and c.from_residual.result c.from_residual.ensures.1 in
    subst (λ (r : Result (Step × ℕ) ℕ). IfErr r (IsBadAt text)) (sym is.1) (subst (λ (n : ℕ). IsBadAt text n) (sym is.2) bad)

pub returns-in_err-number-in-105-clause-bad : goal.returns-in_err-number-in-105-clause-bad
returns-in_err-number-in-105-clause-bad c = λ before are e long.
    let text = c.args.text.now in
    let at = c.in_err-number-in-105.field-0.0 in
    let more : c.args.slash + 1 < length text = omega arith in
    let bad = bad_number text c.args.slash before c.requires.inside c.requires.slash are e 105 4294967295 at Item item items more
    c.in-105.is c.in_err-number-in-105.ensures.bad in
    let is = err_from_is_err_and c.from_residual-in_err-number-in-105.result c.from_residual-in_err-number-in-105.ensures.1 in
    subst (λ (r : Result (Step × ℕ) ℕ). IfErr r (IsBadAt text)) (sym is.1) (subst (λ (n : ℕ). IsBadAt text n) (sym is.2) bad)

pub returns-in_default-clause-bad : goal.returns-in_default-clause-bad
returns-in_default-clause-bad c = search (rules, bad_letter)
