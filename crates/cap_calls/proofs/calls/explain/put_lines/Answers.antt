use Rattle.std.proofs.Common.{List, ap, arith, subst, ℕ, ◌∙◌}
use Rattle.cap_frame.specs.Bytes.{cut}
use Rattle.cap_explain.specs.Explaining.{explanation}
use Rattle.cap_calls.specs.ExplainCalls.{PutsText}
use Rattle.cap_calls.proofs.calls.explain.put_lines.Goals as goal

pub returns-clause-puts : goal.returns-clause-puts
returns-clause-puts c =
    let v = c.args.view.now in
    let m = cut v.sizes.now v.bytes.now in
    let lines = c.text.ensures.lines ∙ c.explain.ensures
    ∙ ap (λ path. explanation path m c.args.refusal.now c.args.numbers) c.steps.ensures in
    subst (λ (text : List ℕ). PutsText text c.args.out.now c.put_text.result c.put_text.new.out) lines c.put_text.ensures.puts

pub returns-clause-few : goal.returns-clause-few
returns-clause-few c = omega (arith, c.put_text.ensures.count, c.text.ensures.few)
