-- The text of a path is read to its end, and a text that isn't read on begins no path.
use Rattle.std.proofs.Common.{option_and_then}
use Rattle.cap_spec.specs.declared.Step.{Step}
use Rattle.cap_spec.specs.declared.Step.TheVariants.{Ptr, Item as item}
use Rattle.cap_spec.proofs.ProofNames.{List, None, Option, Some, [], ap, append-nil, append_assoc, arith, codes, decimal}
use Rattle.cap_spec.proofs.ProofNames.{drop, false, flat_map, get_or, get_or-take, inl, inr, length, length-take, nat_lt}
use Rattle.cap_spec.proofs.ProofNames.{ne_eqb, refl, subst, suc, sym, take, take-take, take_all, true, ℕ, ◌%◌, ◌*◌, ◌++◌}
use Rattle.cap_spec.proofs.ProofNames.{◌+◌, ◌-◌, ◌/◌, ◌<◌, ◌==◌, ◌^◌, ◌∙◌, ◌∷◌, ◌≡◌, ◌≤◌, split_at, leb_tells, nat_tests}
use Rattle.cap_spec.proofs.ProofNames.{decimal_by_steps, AllByRecursion, BeginsPath, IsBadAt, IsPath, IsStep, path_text}
use Rattle.cap_spec.proofs.ProofNames.{step_text, rules}
use Rattle.cap_path.specs.PathReading.{is_digit, longer_number}
use Rattle.cap_path.proofs.ReadSteps.{HasRead, IsReading, Item, Number, Pointer, Reading, Slash, Start, item_number}
use Rattle.cap_path.proofs.ReadSteps.{next_of, pointer_number, read_begins, reading_text}

-- reading some bytes, one after the other
abbrev run : List ℕ → Reading → Option Reading
run [] r = Some r
run (b ∷ bs) r = option_and_then (run bs) (next_of r b)

run_then : (xs ys : List ℕ) (o : Option Reading) → ((r : Reading) → run (xs ++ ys) r ≡ option_and_then (run ys) (run xs r))
    → option_and_then (run (xs ++ ys)) o ≡ option_and_then (run ys) (option_and_then (run xs) o)
run_then xs ys o h = search rules

run-append : (xs ys : List ℕ) (r : Reading) → run (xs ++ ys) r ≡ option_and_then (run ys) (run xs r)
run-append [] ys r = refl
run-append (x ∷ xs) ys r = run_then xs ys (next_of r x) (run-append xs ys)

run_both : (xs ys : List ℕ) (r s : Reading) → run xs r ≡ Some s → run (xs ++ ys) r ≡ run ys s
run_both xs ys r s e = run-append xs ys r ∙ ap (option_and_then (run ys)) e

-- what is read with a digit
digit_test : (d : ℕ) → d < 10 → is_digit (48 + d) ≡ true
digit_test d h = grind (arith, nat_tests)

other_test : (d : ℕ) → ((48 + d) == 47) ≡ false
other_test d = grind (arith, nat_tests)

digit_of : (d : ℕ) → (48 + d) - 48 ≡ d
digit_of d = omega arith

first_ptr : (d : ℕ) → d < 10 → next_of Pointer (48 + d) ≡ Some (Number (Ptr d))
first_ptr d h = rw (digit_test d h, digit_of d) refl

first_item : (d : ℕ) → d < 10 → next_of Item (48 + d) ≡ Some (Number (item d))
first_item d h = rw (digit_test d h, digit_of d) refl

few_test : (n most : ℕ) → n ≤ most → nat_lt most n ≡ false
few_test n most h = grind (arith, nat_tests)

-- a number is its front and its last digit
front_and_last : (n : ℕ) → 10 * (n / 10) + n % 10 ≡ n
front_and_last n = omega arith

longer_of : (n most : ℕ) → 10 ≤ n → n ≤ most → longer_number (n / 10) (n % 10) most ≡ Some n
longer_of n most ten few = search (rules, ne_eqb, few_test, front_and_last)

next_ptr : (n : ℕ) → 10 ≤ n → n ≤ 65535 → next_of (Number (Ptr (n / 10))) (48 + n % 10) ≡ Some (Number (Ptr n))
next_ptr n ten few = rw (other_test (n % 10), digit_test (n % 10) (omega arith), digit_of (n % 10)) (ap pointer_number (longer_of n 65535 ten few))

next_item : (n : ℕ) → 10 ≤ n → n ≤ 4294967295 → next_of (Number (item (n / 10))) (48 + n % 10) ≡ Some (Number (item n))
next_item n ten few = rw (other_test (n % 10), digit_test (n % 10) (omega arith), digit_of (n % 10)) (ap item_number (longer_of n 4294967295 ten few))

-- the digits of a number are read to their end
run_ptr : (n : ℕ) → n < 2 ^ 64 → n ≤ 65535 → run (decimal n) Pointer ≡ Some (Number (Ptr n))
run_ptr n h = decimal_by_steps (λ k ds. k ≤ 65535 → run ds Pointer ≡ Some (Number (Ptr k)))
    (λ k less few. ap (option_and_then (run [])) (first_ptr k less))
    (λ k ds ten before few. run_both ds ((48 + k % 10) ∷ []) Pointer (Number (Ptr (k / 10)))
    (before (omega (arith, few))) ∙ ap (option_and_then (run [])) (next_ptr k ten few)) n h

run_item : (n : ℕ) → n < 2 ^ 64 → n ≤ 4294967295 → run (decimal n) Item ≡ Some (Number (item n))
run_item n h = decimal_by_steps (λ k ds. k ≤ 4294967295 → run ds Item ≡ Some (Number (item k)))
    (λ k less few. ap (option_and_then (run [])) (first_item k less))
    (λ k ds ten before few. run_both ds ((48 + k % 10) ∷ []) Item (Number (item (k / 10))) (before (omega (arith, few)))
    ∙ ap (option_and_then (run [])) (next_item k ten few)) n h

-- and so are those of a step, where a slash may come
run_step : (s : Step) (r : Reading) → IsStep s → next_of r 47 ≡ Some Slash → run (step_text s) r ≡ Some (Number s)
run_step s r fits e = search (rules, option_and_then, run_ptr, run_item)

slash_after : (s : Step) → next_of (Number s) 47 ≡ Some Slash
slash_after s = search rules

-- what is read where some steps were
abbrev last_of : List Step → Reading → Reading
last_of [] r = r
last_of (s ∷ steps) r = last_of steps (Number s)

slash_last : (steps : List Step) (r : Reading) → next_of r 47 ≡ Some Slash → next_of (last_of steps r) 47 ≡ Some Slash
slash_last [] r e = e
slash_last (s ∷ steps) r e = slash_last steps (Number s) (slash_after s)

run_steps : (steps : List Step) (r : Reading) → AllByRecursion IsStep steps → next_of r 47 ≡ Some Slash
    → run (flat_map step_text steps) r ≡ Some (last_of steps r)
run_steps [] r a e = refl
run_steps (s ∷ steps) r a e = search (rules, run_both, run_step, slash_after, run_steps steps (Number s) a.1 (slash_after s))

-- what was read is read
run_read : (text : List ℕ) (done : List Step) (r : Reading) → HasRead text done r → run text Start ≡ Some r
run_read text done r h = ap (λ t. run t Start) h.encodes ∙ run_both (flat_map step_text done) (reading_text r) Start
    (last_of done Start) (run_steps done Start h.are refl) ∙ rest r h.fits
  where
    rest : (r : Reading) → IsReading done r → run (reading_text r) (last_of done Start) ≡ Some r
    rest Start e = ap (λ (d : List Step). Some (last_of d Start)) e
    rest Slash e = ap (option_and_then (run [])) (slash_last done Start refl)
    rest Pointer e = ap (option_and_then (run (112 ∷ []))) (slash_last done Start refl)
    rest Item e = ap (option_and_then (run (105 ∷ []))) (slash_last done Start refl)
    rest (Number s) e = run_step s (last_of done Start) e (slash_last done Start refl)

-- and the text of a path to its end
abbrev end_of : List Step → Reading
end_of [] = Slash
end_of (s ∷ steps) = last_of steps (Number s)

run_path : (steps : List Step) → AllByRecursion IsStep steps → run (path_text steps) Start ≡ Some (end_of steps)
run_path [] a = refl
run_path (s ∷ steps) a = run_steps (s ∷ steps) Start a refl

-- A byte that isn't read begins no path.
stuck : (text more : List ℕ) (done : List Step) (b : ℕ) (r : Reading) → HasRead text done r → next_of r b ≡ None → BeginsPath (text ++ b ∷ more) → ⊥
stuck text more done b r h e p =
    search (
      rules,
      run_path p.steps p.are,
      append_assoc text (b ∷ more) p.rest,
      run_both text (b ∷ more ++ p.rest) Start r (run_read text done r h),
      run_read text done r h,
      option_and_then (run (more ++ p.rest)),
    )

-- the text of a path begins it
path_begins : (text : List ℕ) (n : ℕ) → length text ≤ n → IsPath text → BeginsPath (take n text)
path_begins text n h p = search (rules, take_all, append-nil)

-- a text is bad where it isn't read on
module _ (text : List ℕ) (at : ℕ) (done : List Step) (r : Reading) (h : HasRead (take at text) done r)
    (none : next_of r (get_or text at 0) ≡ None) (lt : at < length text) where
  longest : (n : ℕ) → n ≤ length text → BeginsPath (take n text) → n ≤ at
  longest n few p = elim (leb_tells n at) [
    | inl le ↦ le.1
    | inr over ↦
        let more : at < n = over.1 in
        let cut : take n text ≡ take at (take n text) ++ get_or (take n text) at 0 ∷ drop (suc at)
        (take n text) = split_at (take n text) at 0 (omega (arith, length-take n text, few, more)) in
        let same = take-take at n text (omega (arith, more)) in
        let here = get_or-take n text at 0 more in
        let joined : take n text ≡ take at text ++ get_or text at 0 ∷ drop (suc at) (take n text) = cut
        ∙ ap (λ x. x ++ get_or (take n text) at 0 ∷ drop (suc at) (take n text)) same
        ∙ ap (λ x. take at text ++ x ∷ drop (suc at) (take n text)) here in
        absurd (stuck (take at text) (drop (suc at) (take n text)) done (get_or text at 0) r h none (subst BeginsPath joined p))
  ]

  pub bad_here : IsBadAt text at
  bad_here = record {
    none = λ p. let le = longest (length text) (omega arith) (path_begins text (length text) (omega arith) p) in omega (arith, le, lt);
    within = omega (arith, lt);
    begins = read_begins (take at text) done r h;
    longest = longest;
  }

-- The text that was read is of no path.
abbrev pub Unfinished : List Step → Reading → Type 0
Unfinished done Start = Unit {0}
Unfinished done Slash = 0 < length done
Unfinished done Pointer = Unit {0}
Unfinished done Item = Unit {0}
Unfinished done (Number s) = ⊥

last_is_step : (steps : List Step) (s : Step) → (x : Step) × (last_of steps (Number s) ≡ Number x)
last_is_step [] s = (s, refl)
last_is_step (t ∷ steps) s = last_is_step steps t

longer_text : (done : List Step) → 0 < length done → flat_map step_text done ++ codes "/" ≡ codes "/" → ⊥
longer_text [] h e = absurd (omega (arith, h))
longer_text done h e = search rules

unfinished : (text : List ℕ) (done : List Step) (r : Reading) (steps : List Step) → HasRead text done r
    → Unfinished done r → AllByRecursion IsStep steps → text ≡ path_text steps → ⊥
unfinished text done r [] h u a e =
    let same : Some r ≡ Some Slash = sym (run_read text done r h) ∙ ap (λ t. run t Start) e in
    let is : r ≡ Slash = cc in
    longer_text done (subst (λ (x : Reading). Unfinished done x) is u)
    (subst (λ (x : Reading). flat_map step_text done ++ reading_text x ≡ codes "/") is (sym h.encodes ∙ e))
unfinished text done r (s ∷ steps) h u a e = search (rules, last_is_step steps s, run_read text done r h, run_path (s ∷ steps) a)

pub bad_end : (text : List ℕ) (done : List Step) (r : Reading) → HasRead text done r → Unfinished done r → IsBadAt text (length text)
bad_end text done r h u = search (rules, unfinished, take_all, read_begins, longest)

-- A text is bad where no byte more is read, if it ends there or not.
pub stops : (text : List ℕ) (at : ℕ) (done : List Step) (r : Reading) → at ≤ length text → HasRead (take at text) done r
    → (at ≡ length text → Unfinished done r) → (at < length text → next_of r (get_or text at 0) ≡ None) → IsBadAt text at
stops text at done r inside h ends none = elim (leb_tells (length text) at) [
  | inl past ↦
      let end : at ≡ length text = omega (arith, inside, past.1) in
      let whole = subst (λ t. HasRead t done r) (take_all at text past.1) h in
      subst (λ (n : ℕ). IsBadAt text n) (sym end) (bad_end text done r whole (ends end))
  | inr more ↦ bad_here text at done r h (none more.1) more.1
]
