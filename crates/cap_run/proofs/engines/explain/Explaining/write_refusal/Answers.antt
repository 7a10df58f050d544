use Rattle.cap_spec.proofs.ProofNames.{subst, Some, true, ◌++◌, strict_verdict, vet_text}
use Rattle.cap_vet.specs.VetNames.{depth_of, words_of}
use Rattle.cap_explain.specs.declared.numbers.MessageStart.{MessageStart}
use Rattle.cap_explain.specs.ExplainedFaults.{fault_lines}
use Rattle.cap_text.proofs.Writing.{stopped_more}
use Rattle.cap_text.specs.Writing.{Writes}
use Rattle.cap_run.proofs.engines.explain.Explaining.write_refusal.Goals as goal

pub returns-in-Ok : goal.returns-in-Ok
returns-in-Ok g c = λ h.
    let v = c.args.self.now in
    let m = g.M.Segments.segments c.args.message.now in
    let refusal = c.args.refusal.now in
    let line = vet_text c.args.number (strict_verdict refusal) in
    let cycle = c.fault_cycle-cycle.result in (
      cycle,
      c.fault_cycle-cycle.ensures v.demands (words_of v.limits) h,
      subst (λ (start : MessageStart). Writes g.O.ByteOut c.args.out.now c.write_explanation.new.out c.write_explanation.result
          (line ++ fault_lines true v.demands m (words_of v.limits) (depth_of v.limits) refusal h cycle (Some start))) c.start_after-start.ensures
          (c.write_explanation.ensures h c.args.out.now line c.in-Ok.ensures),
    )

pub returns-in-Err : goal.returns-in-Err
returns-in-Err g c = λ h. (
  c.fault_cycle-cycle.result,
  c.fault_cycle-cycle.ensures c.args.self.now.demands (words_of c.args.self.now.limits) h,
  stopped_more g.O.ByteOut c.args.out.now c.write_refused.new.out c.in-Err.fault _ _ c.in-Err.ensures,
)
