use Rattle.cap_trace.proofs.Branches.{branch_at}
use Rattle.cap_trace.proofs.Filling.{step_written}
use Rattle.cap_trace.proofs.tracing.write_path.Goals as goal

pub step-requires : goal.step-requires
step-requires g c =
    let (m, depth, h) = c.requires in (branch_at m depth 1 c.args.branches.now c.steps.at _ h c.steps-test.true).counted

pub steps-preserved : goal.steps-preserved
steps-preserved g c =
    rw (c.steps.invariant, c.of.ensures, c.step.ensures)
    (step_written g.S.StepSlot.slot c.args.branches.now c.args.steps.now c.steps.at _ c.steps-test.true c.if-count-steps.false)
