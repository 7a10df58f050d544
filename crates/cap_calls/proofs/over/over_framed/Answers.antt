-- The one segment that is seen is the message.
use Rattle.cap_spec.proofs.ProofNames.{List, ap, length, refl, subst, sum, sym, ℕ, ◌∙◌, sizes_of}
use Rattle.cap_walk.specs.Limits.{depth_of, words_of}
use Rattle.cap_calls.proofs.over.over_framed.Goals as goal

pub on_one-requires-clause-words : goal.on_one-requires-clause-words
on_one-requires-clause-words g c =
    c.words.ensures.total ∙ ap (λ (m : List (List ℕ)). sum (sizes_of m)) (sym c.in-Some.ensures.segments)

pub on_one-requires-clause-one : goal.on_one-requires-clause-one
on_one-requires-clause-one g c =
    ap (λ (m : List (List ℕ)). length m) c.in-Some.ensures.segments ∙ c.in-Some.ensures.one.0 refl

pub returns-in-Some : goal.returns-in-Some
returns-in-Some g c =
    subst (λ m. g.C.Call.finds c.args.call.now c.args.demands m (words_of c.args.limits) (depth_of c.args.limits)
    c.args.out.now c.on_one.result c.on_one.new.out)
    c.in-Some.ensures.segments c.on_one.ensures
