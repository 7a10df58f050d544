-- Nothing else is reported of the bytes and the number.
use Rattle.cap_calls.proofs.Answers.{by_flag, input_less, one_input_reported, one_returned}
use Rattle.cap_spec.proofs.ProofNames.{List, ap, not, subst, sym, ℕ, ⊤, ◌∙◌, ◌≡◌}
use Rattle.cap_trace.specs.EarlierPointers.{IsEarlier}
use Rattle.cap_trace.proofs.Numbering.{one_numbered}
use Rattle.cap_trace.proofs.Sharing.{same_earlier}
use Rattle.cap_calls.specs.EarlierCalls.{FindsEarlierCall, ReportsEarlierCall, earlier, none, pointer_found}
use Rattle.cap_calls.specs.CallNames.{Step, allows_trailing, Answer, Found, CallLimits, CallReport}
use Rattle.cap_calls.proofs.calls.earlier_pointer.earlier_pointer.Goals as goal

-- The bytes and the number decide what the call for an earlier pointer finds.
one_earlier : (n : ℕ) (m : List (List ℕ)) (words depth : ℕ) (f g : Found) → FindsEarlierCall n m words depth f
    → FindsEarlierCall n m words depth g → f ≡ g
one_earlier n m words depth f g (earlier p s w k a h e) (earlier q s' w' k' b i j) =
    let same = one_numbered m n p q a.traceable.numbered b.traceable.numbered in
    let one = same_earlier m q s w k s' w' k' (subst (λ (u : List Step). IsEarlier m u s w k) same h) i in
    e ∙ (ap (λ u. pointer_found u w k) one.0 ∙ (ap (λ u. pointer_found s' u k) one.1 ∙ (ap (λ u. pointer_found s' w' u) one.2 ∙ sym j)))
one_earlier n m words depth f g (earlier p s w k a h e) (none missing j) = absurd (missing p s w k a h)
one_earlier n m words depth f g (none missing e) (earlier p s w k a h j) = absurd (missing p s w k a h)
one_earlier n m words depth f g (none missing e) (none also j) = e ∙ sym j

-- The call answers and reports one thing.
one_earlier_reported : (l : CallLimits) (bs : List ℕ) (number : ℕ) (a b : Answer) (r q : CallReport)
    → ReportsEarlierCall l bs number a r → ReportsEarlierCall l bs number b q → (a ≡ b) × (r ≡ q)
one_earlier_reported l bs number a b r q (f, t, h) (g, u, k) =
    one_returned f g a b r q
    (one_input_reported {S = ⊤} (not (allows_trailing l)) l bs f g (λ _ _. tt)
    (λ m v w c d. (one_earlier number m l.charge l.depth v w c d, tt)) t u).0 h k

pub returns-clause-reports : goal.returns-clause-reports
returns-clause-reports c =
    let l = c.args.limits.now in
    let bs = c.args.bytes.now in
    let reported = c.over_input.ensures in
    let less = input_less (λ _. tt) (λ m w d g p. p) reported.1 in
    (reported.0, by_flag l bs reported.0 _ c.allows_trailing-whole.ensures less, reported.2)

pub returns-clause-only : goal.returns-clause-only
returns-clause-only c = λ a r h.
    one_earlier_reported c.args.limits.now c.args.bytes.now c.args.number _ a _ r (returns-clause-reports c) h
