-- Nothing else is reported of the bytes.
use Rattle.cap_calls.proofs.Answers.{input_less, one_message_reported}
use Rattle.cap_spec.proofs.ProofNames.{List, ap, sym, true, ℕ, ◌∙◌, ◌≡◌}
use Rattle.cap_difference.specs.declared.difference.Difference.{Difference}
use Rattle.cap_difference.proofs.OneDifference.{one_difference}
use Rattle.cap_calls.specs.CallNames.{Answer, CallLimits, CallReport, Found, Report}
use Rattle.cap_calls.specs.DifferenceCalls.{IsDifferent, ReportsDifference, canonical, difference_found, different}
use Rattle.cap_calls.proofs.calls.first_difference.first_difference.Goals as goal

-- The bytes decide the first difference that a call reports.
-- one thing is found of an accepted message
one_different : (m : List (List ℕ)) (r : Report) (f g : Found) → IsDifferent m r f → IsDifferent m r g → f ≡ g
one_different m r f g (canonical h e) (canonical k i) = e ∙ sym i
one_different m r f g (canonical h e) (different k b n i) = absurd (k h)
one_different m r f g (different h a d e) (canonical k i) = absurd (h k)
one_different m r f g (different h a d e) (different k b n i) =
    e ∙ ap (λ (x : Difference). difference_found x r) (one_difference m a b d n) ∙ sym i

one_difference_reported : (l : CallLimits) (bs : List ℕ) (a b : Answer) (r q : CallReport) → ReportsDifference l bs a r
    → ReportsDifference l bs b q → (a ≡ b) × (r ≡ q)
one_difference_reported l bs a b r q t u = one_message_reported true l bs a b r q one_different t u

pub returns-clause-reports : goal.returns-clause-reports
returns-clause-reports c =
    let reported = c.over_input.ensures in
    (reported.0, input_less (λ _. tt) (λ m w d g p. p) reported.1, reported.2)

pub returns-clause-only : goal.returns-clause-only
returns-clause-only c = λ a r h. one_difference_reported c.args.limits.now c.args.bytes.now _ a _ r (returns-clause-reports c) h
