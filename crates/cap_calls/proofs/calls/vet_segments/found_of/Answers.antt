-- What is found of the message.
use Rattle.cap_spec.proofs.ProofNames.{List, ap, ap₂, length, refl, subst, sum, ℕ, ◌*◌, ◌∙◌, ◌≡◌, ⊤, sizes_of}
use Rattle.cap_walk.specs.Limits.{depth_of, words_of}
use Rattle.cap_calls.specs.CallNames.{Demands, Judges, IsGood, message, AreSegments, ReportsNoSegments}
use Rattle.cap_calls.specs.CallNames.{segments_in, words_of_slices}
use Rattle.cap_calls.specs.CallFindings.{extent_found}
use Rattle.cap_calls.specs.SegmentsCalls.{no_message}
use Rattle.cap_calls.specs.Slices.{bytes_of}
use Rattle.cap_calls.proofs.calls.vet_segments.found_of.Goals as goal

pub returns-in-Ok : goal.returns-in-Ok
returns-in-Ok c =
    let l = c.args.limits.now in
    let parts = bytes_of c.args.segments.now in
    let walk = c.in-Some.walk in
    let g = c.judged.result in
    let seen = subst (λ (m : List (List ℕ)). Judges c.demands.result ⊤ IsGood m (words_of walk) (depth_of walk) g)
    c.in-Ok.ensures.segments c.judged.ensures in
    let charged = subst (λ (w : ℕ). Judges c.demands.result ⊤ IsGood (segments_in parts) w (depth_of walk) g)
    c.in-Some.ensures.walk.0 seen in
    let deep = subst (λ (d : ℕ). Judges c.demands.result ⊤ IsGood (segments_in parts) l.charge d g) c.in-Some.ensures.walk.1 charged in
    let asked = subst (λ (d : Demands). Judges d ⊤ IsGood (segments_in parts) l.charge l.depth g) c.demands.ensures deep in
    let words : c.words-words.result ≡ words_of_slices parts =
    c.words-words.ensures ∙ ap (λ (m : List (List ℕ)). sum (sizes_of m)) c.in-Ok.ensures.segments in
    let many : c.count.result ≡ length (segments_in parts) =
    c.count.ensures ∙ ap (λ (m : List (List ℕ)). length m) c.in-Ok.ensures.segments in
    let limit = c.charge_limit-limit.ensures (segments_in parts) words in
    message (c.in-Some.ensures.some.0 refl) (subst (λ (n : ℕ). AreSegments n parts) c.in-Some.ensures.size c.in-Ok.ensures.whole) g
    asked
    (c.extent.ensures ∙ (ap₂ (λ (x y : ℕ). extent_found (8 * x) y x c.charge_limit-limit.result g) words many
    ∙ ap (λ (k : ℕ). extent_found (8 * words_of_slices parts) (length (segments_in parts)) (words_of_slices parts) k g) limit))

pub returns-in-Err : goal.returns-in-Err
returns-in-Err c =
    let parts = bytes_of c.args.segments.now in
    no_message (c.in-Some.ensures.some.0 refl) c.in-Err.fault
    (subst (λ (n : ℕ). ReportsNoSegments n parts c.in-Err.fault) c.in-Some.ensures.size c.in-Err.ensures.err)
    c.without_message.ensures
