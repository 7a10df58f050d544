use Rattle.cap_spec.proofs.ProofNames.{List, Some, ap, subst, ℕ, true, ◌++◌, ◌∙◌, ◌≡◌}
use Rattle.cap_vet.specs.VetNames.{depth_of, words_of}
use Rattle.cap_explain.specs.Explaining.{explanation}
use Rattle.cap_trace.specs.NamedPaths.{fault_path}
use Rattle.cap_text.specs.Writing.{Writes}
use Rattle.cap_explain.proofs.ExplainedFaults.{same_numbers}
use Rattle.cap_explain.specs.ExplainedFaults.{fault_lines}
use Rattle.cap_run.proofs.engines.explain.write_explanation.Goals as goal

pub returns : goal.returns
returns g c = λ h before text wrote.
    let m = g.M.Segments.segments c.args.message.now in
    let demands = c.args.demands in
    let words = words_of c.args.limits in
    let depth = depth_of c.args.limits in
    let refusal = c.args.refusal.now in
    let within = c.limits_under-within.ensures in
    let made = c.numbers_of-numbers in
    let numbers = same_numbers true demands m words depth refusal h c.args.cycle (Some c.args.start) c.limits_under-within.result made.result
    within.words within.depth made.ensures.words made.ensures.depth made.ensures.charge made.ensures.cycle made.ensures.table
    made.ensures.start in
    let lines : c.text.result.now ≡ fault_lines true demands m words depth refusal h c.args.cycle (Some c.args.start) = c.text.ensures.lines ∙ c.explain.ensures
    ∙ ap (λ path. explanation path m refusal made.result) (c.steps.ensures ∙ c.find_refused.ensures demands words h)
    ∙ ap (λ k. explanation (fault_path demands m words depth refusal h) m refusal k) numbers in
    subst (λ (more : List ℕ). Writes g.O.ByteOut before c.write_more.new.out c.write_more.result (text ++ more)) lines
    (c.write_more.ensures before text wrote)
