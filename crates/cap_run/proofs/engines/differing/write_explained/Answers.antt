use Rattle.cap_spec.proofs.ProofNames.{List, Some, ap, append-nil, subst, sym, ℕ, ◌++◌, ◌∙◌, ◌≡◌}
use Rattle.cap_explain.specs.Explaining.{difference_explanation}
use Rattle.cap_text.specs.Writing.{Writes, Wrote}
use Rattle.cap_run.specs.Differing.{difference_path}
use Rattle.cap_run.proofs.Differing.{none_explained, some_explained}
use Rattle.cap_run.proofs.engines.differing.write_explained.Goals as goal

pub returns-in-Some : goal.returns-in-Some
returns-in-Some g c = λ words a h before text wrote.
    let m = g.M.Segments.segments c.args.message.now in
    let d = c.in-Some.difference in
    let (k, lines) = some_explained m c.args.start c.args.difference.now h d c.in-Some.is in
    let written : c.text.result.now ≡ difference_explanation (difference_path m d k) m (Some c.args.start) d =
    c.text.ensures.lines ∙ c.explain_difference.ensures
    ∙ ap (λ path. difference_explanation path m (Some c.args.start) d) (c.steps.ensures ∙ c.find_difference.ensures words a k) in
    rw lines (subst (λ (more : List ℕ). Writes g.O.ByteOut before c.write_more.new.out c.write_more.result (text ++ more)) written
    (c.write_more.ensures before text wrote))

pub returns-in-None : goal.returns-in-None
returns-in-None g c = λ words a h before text wrote.
    let m = g.M.Segments.segments c.args.message.now in
    rw (none_explained m c.args.start c.args.difference.now h c.in-None.is)
    (subst (Wrote g.O.ByteOut before c.args.out.now) (sym (append-nil text)) wrote)
