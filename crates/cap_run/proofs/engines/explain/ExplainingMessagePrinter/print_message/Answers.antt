use Rattle.cap_explain.specs.ExplainedFaults.{fault_lines}
use Rattle.cap_spec.proofs.ProofNames.{List, ap, inl, inr, refl, subst, Some, ℕ, true, ◌++◌, strict_verdict, vet_text, Tree}
use Rattle.cap_vet.specs.VetNames.{words_under, depth_of, words_of, IsReport, report_of}
use Rattle.cap_run.specs.Differing.{OrDifference}
use Rattle.cap_run.specs.Explained.{HasLinesAfter, start_after}
use Rattle.cap_run.specs.RunNames.{AllocatesUnder, OrFaultLines, WritesOneOf}
use Rattle.cap_run.specs.declared.engines.stream.Counted.TheVariants.{Refused}
use Rattle.cap_run.proofs.Printing.{writes_as, writes_text}
use Rattle.cap_run.proofs.engines.explain.ExplainingMessagePrinter.print_message.Goals as goal

pub returns-in-Ok : goal.returns-in-Ok
returns-in-Ok g c =
    let v = c.args.self.now in
    let m = g.M.Segments.segments c.args.message.now in
    let words = words_of v.limits in
    let within = words_under v.demands m words in
    let depth = depth_of v.limits in
    let met = c.in-Ok.ensures.ok in
    let reported = subst (λ (m : List (List ℕ)). (w : ℕ) (t : Tree) → IsReport m w depth (report_of c.in-Ok.vetted) t
    → WritesOneOf g.O.ByteOut (OrDifference v.canonical (start_after v.packed c.args.before) c.args.number m
    (HasLinesAfter v.packed words depth c.args.before m (g.T.AcceptedPrinter.reports v.printer c.args.before (words_of v.limits) w depth c.args.number m)))
    (g.T.AcceptedPrinter.allocates v.printer w depth m)
    c.args.out.now c.print_whole.new.out c.print_whole.result)
    (ap g.M.Segments.segments c.in-Ok.ensures.message) c.print_whole.ensures in
    writes_as g.O.ByteOut
    (OrDifference v.canonical (start_after v.packed c.args.before) c.args.number m
    (HasLinesAfter v.packed words depth c.args.before m (g.T.AcceptedPrinter.reports v.printer c.args.before words within depth c.args.number m)))
    (OrFaultLines v.packed v.canonical v.demands (λ before. g.T.AcceptedPrinter.reports v.printer before words) words depth c.args.before c.args.number m)
    (g.T.AcceptedPrinter.allocates v.printer within depth m)
    (AllocatesUnder v.demands (g.T.AcceptedPrinter.allocates v.printer) words depth m)
    c.args.out.now c.print_whole.new.out c.print_whole.result (λ text counted e. inl (met.1.strict, e)) (λ w. (met.1.strict, w))
    (reported within met.0.0 met.0.1)

pub returns-in-Err : goal.returns-in-Err
returns-in-Err g c =
    let v = c.args.self.now in
    let m = g.M.Segments.segments c.args.message.now in
    let words = words_of v.limits in
    let depth = depth_of v.limits in
    let refusal = c.in-Err.refusal in
    let is_fault = c.in-Err.ensures.err in
    let (cycle, is_cycle, written) = c.write_refusal-written.ensures is_fault in
    writes_text g.O.ByteOut (vet_text c.args.number (strict_verdict refusal)
    ++ fault_lines true v.demands m words depth refusal is_fault cycle (Some (start_after v.packed c.args.before))) Refused
    (OrFaultLines v.packed v.canonical v.demands (λ before. g.T.AcceptedPrinter.reports v.printer before words) words depth c.args.before c.args.number m)
    (AllocatesUnder v.demands (g.T.AcceptedPrinter.allocates v.printer) words depth m)
    c.args.out.now c.write_refusal-written.new.out c.write_refusal-written.result c.after_text.result
    (inr (record { fault = refusal; is_fault = is_fault; cycle = cycle; is_cycle = is_cycle; lines = refl; counts = refl }))
    written c.after_text.ensures
