use Rattle.std.proofs.Common.{List, None, ap, subst, ℕ, ◌∙◌}
use Rattle.cap_frame.specs.Bytes.{cut}
use Rattle.cap_walk.specs.Limits.{depth_of, words_of}
use Rattle.cap_explain.specs.Explaining.{explanation}
use Rattle.cap_trace.specs.NamedPaths.{fault_path}
use Rattle.cap_calls.specs.ExplainCalls.{PutsText}
use Rattle.cap_explain.proofs.ExplainedFaults.{same_numbers}
use Rattle.cap_calls.proofs.calls.explain.explained.Goals as goal

pub returns-clause-lines : goal.returns-clause-lines
returns-clause-lines c = λ h.
    let v = c.args.view.now in
    let m = cut v.sizes.now v.bytes.now in
    let demands = c.args.demands in
    let words = words_of c.args.limits in
    let depth = depth_of c.args.limits in
    let refusal = c.args.refusal in
    let within = c.limits_under-within.ensures in
    let made = c.numbers_of-numbers in
    let cycle = c.fault_cycle-cycle.result in
    let numbers = same_numbers c.args.has_table demands m words depth refusal h cycle None c.limits_under-within.result made.result
    within.words within.depth made.ensures.words made.ensures.depth made.ensures.charge made.ensures.cycle made.ensures.table
    made.ensures.start in
    let lines = ap (λ path. explanation path m refusal made.result) (c.find_refused.ensures demands words h)
    ∙ ap (λ k. explanation (fault_path demands m words depth refusal h) m refusal k) numbers in (
      cycle,
      c.fault_cycle-cycle.ensures demands words h,
      subst (λ (text : List ℕ). PutsText text c.args.out.now c.put_lines-count.result c.put_lines-count.new.out)
          lines c.put_lines-count.ensures.puts,
    )
