use Rattle.cap_explain.specs.ExplainedFaults.{fault_lines}
use Rattle.cap_spec.proofs.ProofNames.{None, append-nil, append_assoc, subst, sym, Some, true, ◌++◌, strict_verdict}
use Rattle.cap_vet.specs.VetNames.{IsDemandFault, depth_of, words_of}
use Rattle.cap_walk.specs.declared.demands.Demands.{Demands}
use Rattle.cap_text.proofs.Writing.{stopped_more, stopped_then, wrote_then}
use Rattle.cap_text.specs.Lines.{filter_line}
use Rattle.cap_text.specs.Writing.{Writes, Wrote}
use Rattle.cap_run.specs.Explained.{filter_demands}
use Rattle.cap_run.proofs.Explaining.{no_filter_lines, some_filter_lines}
use Rattle.cap_run.proofs.engines.explain.write_filter_lines.Goals as goal

pub returns-in-None : goal.returns-in-None
returns-in-None g c = λ h before text wrote.
    let m = g.M.Segments.segments c.args.message.now in
    let none = no_filter_lines m (words_of c.args.limits) (depth_of c.args.limits) c.args.start c.args.refusal.now h c.in-None.is in
    rw none (subst (Wrote g.O.ByteOut before c.args.out.now) (sym (append-nil text)) wrote)

pub returns-in-Ok : goal.returns-in-Ok
returns-in-Ok g c = λ h before text wrote.
    let m = g.M.Segments.segments c.args.message.now in
    let words = words_of c.args.limits in
    let depth = depth_of c.args.limits in
    let fault = c.in-Some.refusal in
    let line = filter_line (strict_verdict fault) in
    let (k, lines) = some_filter_lines m words depth c.args.start c.args.refusal.now h fault c.in-Some.is in
    let both = wrote_then g.O.ByteOut before c.args.out.now c.write_filtered.new.out text line wrote c.in-Ok.ensures in
    let explained = subst (λ (d : Demands). (h : IsDemandFault d m words depth fault)
    → Writes g.O.ByteOut before c.write_explanation.new.out c.write_explanation.result
    ((text ++ line) ++ fault_lines true d m words depth fault h None (Some c.args.start)))
    c.filter_demands.ensures (λ h. c.write_explanation.ensures h before (text ++ line) both) k in
    rw (lines, ← append_assoc text line (fault_lines true filter_demands m words depth fault k None (Some c.args.start))) explained

pub returns-in-Err : goal.returns-in-Err
returns-in-Err g c = λ h before text wrote.
    let m = g.M.Segments.segments c.args.message.now in
    let words = words_of c.args.limits in
    let depth = depth_of c.args.limits in
    let fault = c.in-Some.refusal in
    let line = filter_line (strict_verdict fault) in
    let (k, lines) = some_filter_lines m words depth c.args.start c.args.refusal.now h fault c.in-Some.is in
    let more = fault_lines true filter_demands m words depth fault k None (Some c.args.start) in
    rw lines (stopped_then g.O.ByteOut before c.args.out.now c.write_filtered.new.out c.in-Err.fault text (line ++ more) wrote
    (stopped_more g.O.ByteOut c.args.out.now c.write_filtered.new.out c.in-Err.fault line more c.in-Err.ensures))
