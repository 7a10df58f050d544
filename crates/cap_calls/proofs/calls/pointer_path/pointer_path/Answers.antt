-- Nothing else is reported of the bytes, the number and the capacity.
use Rattle.std.proofs.Common.{arith, Bool, List, ap, length, not, sym, ℕ, ◌∙◌, ◌≡◌, ◌≤◌}
use Rattle.cap_calls.proofs.Answers.{by_flag, input_less, one_input_reported, one_returned}
use Rattle.cap_spec.proofs.ProofNames.{rules}
use Rattle.cap_trace.proofs.Numbering.{one_numbered}
use Rattle.cap_calls.specs.PointerCalls.{FindsFew, FindsPointer, ReportsPointer, none, too_small, written}
use Rattle.cap_calls.specs.CallNames.{Step, allows_trailing, ReportsInput, steps_found, Answer, Found, CallLimits}
use Rattle.cap_calls.specs.CallNames.{CallReport, CallStep}
use Rattle.cap_calls.specs.declared.answer.Answer.TheVariants as answer
use Rattle.cap_calls.proofs.calls.pointer_path.pointer_path.Goals as goal

-- The bytes, the number and the capacity decide what the call for a path finds.
module _ (n : ℕ) (old : List CallStep) (m : List (List ℕ)) (words depth : ℕ) where
  one_pointer : (x y : List CallStep) (f g : Found) → FindsPointer n old x m words depth f → FindsPointer n old y m words depth g
      → (f ≡ g) × (x ≡ y)
  one_pointer x y f g (written p a few e i) (written q b less h k) =
      search (rules, one_numbered m n p q a.traceable.numbered b.traceable.numbered)
  one_pointer x y f g (written p a few e i) (too_small q b less h k) =
      let same = ap length (one_numbered m n p q a.traceable.numbered b.traceable.numbered) in absurd (omega (arith, same, few, less))
  one_pointer x y f g (written p a few e i) (none missing h k) = absurd (missing p a)
  one_pointer x y f g (too_small p a less e i) (written q b few h k) =
      let same = ap length (one_numbered m n p q a.traceable.numbered b.traceable.numbered) in absurd (omega (arith, same, few, less))
  one_pointer x y f g (too_small p a less e i) (too_small q b also h k) =
      let same : p ≡ q = one_numbered m n p q a.traceable.numbered b.traceable.numbered in
      (e ∙ ap (λ (u : List Step). steps_found answer.BufferTooSmall (length u)) same ∙ sym h, i ∙ sym k)
  one_pointer x y f g (too_small p a less e i) (none missing h k) = absurd (missing p a)
  one_pointer x y f g (none missing e i) (written q b few h k) = absurd (missing q b)
  one_pointer x y f g (none missing e i) (too_small q b less h k) = absurd (missing q b)
  one_pointer x y f g (none missing e i) (none also h k) = (e ∙ sym h, i ∙ sym k)

-- The call answers, writes and reports one thing.
one_pointer_reported : (l : CallLimits) (bs : List ℕ) (number : ℕ) (old : List CallStep) (a b : Answer) (n k : ℕ)
    (x y : List CallStep) (r q : CallReport)
    → ReportsPointer l bs number old a n x r → ReportsPointer l bs number old b k y q
    → (a ≡ b) × (n ≡ k) × (x ≡ y) × (r ≡ q)
one_pointer_reported l bs number old a b n k x y r q (f, t, h, e) (g, u, i, j) =
    let same = one_input_reported {S = x ≡ y} (not (allows_trailing l)) l bs f g (λ s v. s ∙ sym v)
    (λ m v w c d. one_pointer number old m l.charge l.depth x y v w c d) t u in
    let one = one_returned f g a b r q same.0 h i in
    (one.0, e ∙ (ap (λ (z : Found). z.count) same.0 ∙ sym j), same.1, one.1)

-- The steps are few, since the depth limit is.
few_reported : (whole : Bool) (l : CallLimits) (bs : List ℕ) (n : ℕ) (old new : List CallStep) (f : Found)
    → ReportsInput whole (new ≡ old) (FindsFew n old new) l bs f → f.count ≤ 256
few_reported whole l bs n old new f h = search rules

pub returns-clause-reports : goal.returns-clause-reports
returns-clause-reports c =
    let l = c.args.limits.now in
    let bs = c.args.bytes.now in
    let reported = c.over_input-answer.ensures in
    let less = input_less (λ k. k) (λ m w d g p. p.0) reported.1 in
    (reported.0, by_flag l bs reported.0 _ c.allows_trailing-whole.ensures less, reported.2, reported.3)

pub returns-clause-only : goal.returns-clause-only
returns-clause-only c = λ a n new r h.
    one_pointer_reported c.args.limits.now c.args.bytes.now c.args.number c.args.steps.now _ a _ n _ new _ r (returns-clause-reports c) h

pub returns-clause-few : goal.returns-clause-few
returns-clause-few c =
    let reported = c.over_input-answer.ensures in
    omega (arith, reported.3, few_reported _ c.args.limits.now c.args.bytes.now c.args.number c.args.steps.now _ reported.0 reported.1)
