use Rattle.std.proofs.Common.{List, ap₂, subst, sym, ℕ, ◌++◌}
use Rattle.cap_spec.proofs.ProofNames.{Occupies}
use Rattle.cap_trace.proofs.Common.{followed_used, wrong_unused}
use Rattle.cap_trace.proofs.used_words.UsedWords.at.Goals as goal

pub returns-in-Ok : goal.returns-in-Ok
returns-in-Ok g c =
    let m = g.M.Segments.segments c.args.message.now in
    subst (λ (u : List (ℕ × ℕ)). Occupies m c.args.s c.args.w u)
    (sym (ap₂ (λ (u v : List (ℕ × ℕ)). u ++ v) c.pads_at.ensures c.object_at.ensures))
    (followed_used m c.args.s c.args.w c.word.result c.in-Ok.followed c.word.ensures c.in-Ok.ensures.ok)

pub returns-in-Err : goal.returns-in-Err
returns-in-Err g c = λ used o.
    wrong_unused (g.M.Segments.segments c.args.message.now) c.args.s c.args.w _ used c.in-Err.ensures.err o
