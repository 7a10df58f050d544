use Rattle.cap_spec.proofs.ProofNames.{List, ap, arith, false, length, ne_eqb, refl, ℕ, ◌∙◌, ◌≡◌}
use Rattle.cap_calls.specs.CallNames.{framed, framed_found, reports, has_no_table, AreLimits, HasFrame, HasTrailing}
use Rattle.cap_calls.specs.CallNames.{of_frame, ReportsVet, ReportsSegmentsCall, message, AreSegments, segments_in, Answer}
use Rattle.cap_calls.specs.CallNames.{Found, CallLimits, CallReport}
use Rattle.cap_calls.specs.SegmentsCalls.{bad_limits, no_message}
use Rattle.cap_calls.proofs.Answers.{one_extent}
use Rattle.cap_calls.proofs.SeparateSegments.{not_both}
use Rattle.cap_calls.proofs.laws.separate_segments_are_vetted_as_framed.Goals as goal

-- Separate segments are vetted as the frame of them is.
-- limits of a frame aren't those of words
table_given : (l : CallLimits) → AreLimits l → has_no_table l ≡ false
table_given l h = ne_eqb l.form 2 (λ e. omega (arith, e, h.flags.form))

-- no bytes follow a frame that is all of them
none_after : (l : CallLimits) (bs : List ℕ) (n : ℕ) (m : List (List ℕ)) → HasFrame l bs (length bs) n m → ¬ HasTrailing l bs
none_after l bs n m h (o, x, y, k, less) = omega (arith, less, (one_extent l bs x (length bs) y n o m k h).0)

vetted_as_framed : (l : CallLimits) (parts : List (List ℕ)) (bs : List ℕ) (n : ℕ) (a : Answer) (r : CallReport)
    → AreSegments l.message_words parts → HasFrame l bs (length bs) n (segments_in parts) → ReportsSegmentsCall l parts a r
    → ReportsVet l bs a (record r { length = length bs })
vetted_as_framed l parts bs n a r s h (f, bad_limits bad e, k) = absurd (bad h.are_limits)
vetted_as_framed l parts bs n a r s h (f, no_message y c t e, k) = absurd (not_both l.message_words parts c t s)
vetted_as_framed l parts bs n a r s h (f, message y z g t e, (i, j)) =
    let report = ap (λ (x : CallReport). record x { length = length bs }) (j ∙ ap (λ (x : Found). x.report) e) in (
      framed_found l (length bs) (segments_in parts) g,
      of_frame (table_given l h.are_limits)
          (reports (λ _. none_after l bs n (segments_in parts) h) (framed (segments_in parts) (length bs) n g h t refl)),
      (i ∙ ap (λ (x : Found). x.answer) e, report),
    )

pub returns : goal.returns
returns c = λ l parts bs a r (s, (n, h)) t. vetted_as_framed l parts bs n a r s h t
