-- The bytes of separate segments decide what the call over them finds.
use Rattle.cap_spec.proofs.ProofNames.{List, ap, arith, sym, ℕ, ◌*◌, ◌∙◌, ◌≡◌}
use Rattle.cap_spec.proofs.ProofNames.{⊤, rules}
use Rattle.cap_calls.specs.CallNames.{framed_found, demands_of, IsGood, ReportsSegmentsCall, message, AreSegments}
use Rattle.cap_calls.specs.CallNames.{ReportsNoSegments, segments_in, words_of_slices, Answer, Found, CallLimits, CallReport}
use Rattle.cap_calls.specs.SegmentsCalls.{FindsSegments, bad_limits, no_message, no_segments_found}
use Rattle.cap_calls.specs.Slices.{AreWhole, IsBadSegment}
use Rattle.cap_calls.specs.declared.slices.SlicesFault.{SlicesFault}
use Rattle.cap_calls.proofs.Answers.{one_judged, one_returned}

module _ (limit : ℕ) (parts : List (List ℕ)) where
  -- a segment that ends inside a word isn't whole
  not_whole : (s : ℕ) → IsBadSegment parts s → AreWhole parts → ⊥
  not_whole s h w = omega (arith, h.cut, w s h.inside)

  -- the first one is one
  one_bad : (s t : ℕ) → IsBadSegment parts s → IsBadSegment parts t → s ≡ t
  one_bad s t h k = search rules

  -- there is no message for one cause
  one_no_segments : (a b : SlicesFault) → ReportsNoSegments limit parts a → ReportsNoSegments limit parts b → a ≡ b
  one_no_segments a b h x4 = search (rules, one_bad, not_whole)

  -- and where there is a cause, there is no message
  pub not_both : (a : SlicesFault) → ReportsNoSegments limit parts a → AreSegments limit parts → ⊥
  not_both a h x3 = search (rules, not_whole)

-- So there is one thing to be found.
one_found : (l : CallLimits) (parts : List (List ℕ)) (f g : Found) → FindsSegments l parts f → FindsSegments l parts g → f ≡ g
one_found l parts f g (bad_limits h e) (bad_limits k i) = e ∙ sym i
one_found l parts f g (bad_limits h e) (no_message k b t i) = absurd (h k)
one_found l parts f g (bad_limits h e) (message k s v t i) = absurd (h k)
one_found l parts f g (no_message h a t e) (bad_limits k i) = absurd (k h)
one_found l parts f g (message h s v t e) (bad_limits k i) = absurd (k h)
one_found l parts f g (no_message h a t e) (no_message k b u i) =
    e ∙ (ap no_segments_found (one_no_segments l.message_words parts a b t u) ∙ sym i)
one_found l parts f g (no_message h a t e) (message k s v u i) = absurd (not_both l.message_words parts a t s)
one_found l parts f g (message h s v t e) (no_message k b u i) = absurd (not_both l.message_words parts b u s)
one_found l parts f g (message h s v t e) (message k r w u i) =
    let one = (one_judged {S = ⊤} {P = IsGood} {Q = IsGood} (demands_of l) (segments_in parts) l.charge l.depth v w (λ _ _. tt)
    (λ z _ p q. (p ∙ sym q, tt)) t u).0 in
    e ∙ (ap (framed_found l (8 * words_of_slices parts) (segments_in parts)) one ∙ sym i)

pub one_segments_reported : (l : CallLimits) (parts : List (List ℕ)) (a b : Answer) (r q : CallReport) → ReportsSegmentsCall l parts a r
    → ReportsSegmentsCall l parts b q → (a ≡ b) × (r ≡ q)
one_segments_reported l parts a b r q (f, t, h) (g, u, k) = one_returned f g a b r q (one_found l parts f g t u) h k
