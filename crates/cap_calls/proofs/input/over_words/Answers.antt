-- What is found of the words.
use Rattle.cap_spec.proofs.Bytes.Plain.{words_exact}
use Rattle.cap_spec.proofs.ProofNames.{List, [], ap, arith, length, refl, subst, sum, sym, zero-add, ℕ, ◌/◌, ◌∙◌, ◌∷◌, ◌≡◌, sizes_of}
use Rattle.cap_spec.proofs.ProofNames.{plain_words}
use Rattle.cap_walk.specs.Limits.{depth_of, words_of}
use Rattle.cap_calls.specs.CallFindings.{extent_found}
use Rattle.cap_calls.specs.CallInputs.{of_no_words, of_words}
use Rattle.cap_calls.proofs.input.over_words.Goals as goal

pub on-requires : goal.on-requires
on-requires g c =
    let bs = c.args.bytes.now in
    let one : sum (sizes_of (plain_words bs ∷ [])) ≡ length (plain_words bs) = zero-add (length (plain_words bs)) in
    let seen = ap (λ (m : List (List ℕ)). sum (sizes_of m)) c.in-Ok.ensures.segments in
    omega (arith, one, words_exact bs, seen)

pub returns-in-Ok : goal.returns-in-Ok
returns-in-Ok g c = λ whole.
    let l = c.args.limits.now in
    let finds = g.C.Call.finds c.args.call.now in
    let old = c.args.out.now in
    let new = c.on.new.out in
    let walk = c.in-Ok.walk in
    let seen = subst (λ m. finds c.demands.result m (words_of walk) (depth_of walk) old c.on.result new) c.in-Ok.ensures.segments c.on.ensures in
    let found = subst (λ w. finds c.demands.result (plain_words c.args.bytes.now ∷ []) w (depth_of walk) old c.on.result new)
    c.in-Ok.ensures.limits.0 seen in
    let deep = subst (λ d. finds c.demands.result (plain_words c.args.bytes.now ∷ []) l.charge d old c.on.result new)
    c.in-Ok.ensures.limits.1 found in
    let asked = subst (λ d. finds d (plain_words c.args.bytes.now ∷ []) l.charge l.depth old c.on.result new) c.demands.ensures deep in
    let bs = c.args.bytes.now in
    let m : List (List ℕ) = plain_words bs ∷ [] in
    let one : sum (sizes_of m) ≡ length (plain_words bs) = zero-add (length (plain_words bs)) in
    let words : length bs / 8 ≡ sum (sizes_of m) = sym (one ∙ words_exact bs) in
    let limit = c.charge_limit-limit.ensures m words in
    of_words c.requires c.on.result c.in-Ok.ensures.words asked
    (c.extent.ensures ∙ (ap (λ (k : ℕ). extent_found (length bs) 1 k c.charge_limit-limit.result c.on.result) words
    ∙ ap (λ (k : ℕ). extent_found (length bs) 1 (sum (sizes_of m)) k c.on.result) limit))

pub returns-in-Err : goal.returns-in-Err
returns-in-Err g c = λ whole. of_no_words c.requires c.in-Err.cause c.in-Err.ensures.none c.without.ensures refl
