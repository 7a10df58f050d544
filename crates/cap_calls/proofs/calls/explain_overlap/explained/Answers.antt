-- The lines on both pointers.
use Rattle.cap_spec.proofs.ProofNames.{List, None, Some, ap, subst, ℕ, ◌++◌}
use Rattle.cap_explain.specs.Explaining.{overlap_lines}
use Rattle.cap_explain.specs.ExplainedFaults.{earlier_lines}
use Rattle.cap_calls.specs.PackCalls.{ReportsText}
use Rattle.cap_calls.proofs.calls.explain_overlap.explained.Goals as goal

pub returns-clause-lines : goal.returns-clause-lines
returns-clause-lines g c = λ traced.
    let m = g.M.Segments.segments c.args.message.now in
    let p = c.args.pointer in
    let steps = c.args.steps.now in
    let earlier = c.find_earlier-earlier.result in
    let found = c.find_earlier-earlier.ensures.reports steps traced in
    let lines = ap (λ path. overlap_lines c.args.has_table (Some steps) m None p.segment p.word ++ earlier_lines path earlier) found.1 in (
      earlier,
      found.0,
      subst (λ (text : List ℕ). ReportsText text c.args.out.now c.put_lines.result.answer
          c.put_lines.result.count c.put_lines.new.out) lines c.put_lines.ensures.puts,
    )
