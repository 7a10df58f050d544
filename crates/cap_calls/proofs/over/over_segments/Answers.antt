-- What is seen is the message.
use Rattle.cap_spec.proofs.ProofNames.{List, ap, subst, sum, sym, ℕ, ◌∙◌, sizes_of}
use Rattle.cap_walk.specs.Limits.{depth_of, words_of}
use Rattle.cap_calls.proofs.over.over_segments.Goals as goal

pub on-requires : goal.on-requires
on-requires g c = c.words.ensures.total ∙ ap (λ (m : List (List ℕ)). sum (sizes_of m)) (sym c.view.ensures)

pub returns : goal.returns
returns g c =
    subst (λ m. g.C.Call.finds c.args.call.now c.args.demands m (words_of c.args.limits) (depth_of c.args.limits)
    c.args.out.now c.on.result c.on.new.out)
    c.view.ensures c.on.ensures
