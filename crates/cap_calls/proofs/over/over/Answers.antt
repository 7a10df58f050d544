-- What is found of the message in the frame is what is reported.
use Rattle.cap_spec.proofs.ProofNames.{Bool, List, ap, arith, false, if◌then◌else◌, length, refl, subst, true, ℕ, ◌-◌, ◌<◌}
use Rattle.cap_spec.proofs.ProofNames.{◌∙◌, ◌≡◌, ◌≤◌, false≢true}
use Rattle.cap_frame.specs.Framed.{frame_bytes, framed_segments}
use Rattle.cap_walk.specs.Limits.{words_of}
use Rattle.cap_calls.specs.CallFindings.{trailing_found, without}
use Rattle.cap_calls.specs.CallNames.{framed, framed_found, reports, trailing, HasFrame, HasTrailing, CallLimits}
use Rattle.cap_calls.proofs.Answers.{no_cause, one_extent}
use Rattle.cap_calls.proofs.over.over.Goals as goal

-- The number of trailing bytes is above 0 only if none may follow.
more_given : (whole : Bool) (n k : ℕ) → n ≡ (if whole then k else 0) → 0 < n → (whole ≡ true) × (n ≡ k)
more_given true n k e h = (refl, e)
more_given false n k e h = absurd (omega (arith, e, h))

-- And it is 0 only if none follow.
none_reported : (whole : Bool) (n long frame : ℕ) → n ≡ (if whole then long - frame else 0) → n ≤ 0 → whole ≡ true
    → ¬ (frame < long)
none_reported true n long frame e h t = λ less. omega (arith, e, h, less)
none_reported false n long frame e h t = absurd (false≢true t)

none_trailing : (l : CallLimits) (bs : List ℕ) (frame segments : ℕ) (m : List (List ℕ))
    → HasFrame l bs frame segments m → ¬ (frame < length bs)
    → ¬ HasTrailing l bs
none_trailing l bs frame segments m h none (n, x, y, k, less) =
    none (subst (λ (z : ℕ). z < length bs) (one_extent l bs x frame y segments n m k h).0 less)

pub returns-then-more-gt0 : goal.returns-then-more-gt0
returns-then-more-gt0 g c =
    let f = c.in-Ok.framed in
    let m = framed_segments f in
    let reported = more_given c.args.whole c.bytes_after-more.result _ c.bytes_after-more.ensures c.if-more-gt0.true in
    trailing m (frame_bytes f) (length m) reported.0
    (record { are_limits = c.in-Ok.ensures.limits.0; front = c.in-Ok.ensures.front; count = refl })
    (omega (arith, c.if-more-gt0.true, reported.1))
    (c.framed.ensures ∙ ap (framed_found c.args.limits.now (frame_bytes f) m) (c.trailing.ensures ∙ ap trailing_found reported.1))
    refl

pub returns-else-more-gt0 : goal.returns-else-more-gt0
returns-else-more-gt0 g c =
    let l = c.args.limits.now in
    let limits = c.in-Ok.ensures.limits in
    let f = c.in-Ok.framed in
    let m = framed_segments f in
    let finds = g.C.Call.finds c.args.call.now in
    let frame : HasFrame l c.args.bytes.now (frame_bytes f) (length m) m =
    record { are_limits = limits.0; front = c.in-Ok.ensures.front; count = refl } in
    let found = subst (λ w. finds c.demands.result m w l.depth c.args.out.now c.over_framed.result
    c.over_framed.new.out) limits.1
    (subst (λ d. finds c.demands.result m (words_of c.in-Ok.walk) d c.args.out.now c.over_framed.result
    c.over_framed.new.out) limits.2
    c.over_framed.ensures) in
    let asked = subst (λ d. finds d m l.charge l.depth c.args.out.now c.over_framed.result c.over_framed.new.out)
    c.demands.ensures found in
    reports
    (λ whole. none_trailing l c.args.bytes.now (frame_bytes f) (length m) m frame
    (none_reported c.args.whole c.bytes_after-more.result _ _ c.bytes_after-more.ensures c.if-more-gt0.false whole))
    (framed m (frame_bytes f) (length m) c.over_framed.result frame asked c.framed-in-Ok.ensures)

pub returns-in-Err : goal.returns-in-Err
returns-in-Err g c =
    reports (λ _ (m, x, y, h, more). no_cause c.args.limits.now c.args.bytes.now c.in-Err.cause x y m
    c.in-Err.ensures.none h)
    (without c.in-Err.cause c.in-Err.ensures.none c.without.ensures refl)
