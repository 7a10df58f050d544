use Rattle.std.proofs.Common.{subst, ℕ}
use Rattle.cap_trace.specs.Traces.{ReportsPath}
use Rattle.cap_trace.proofs.Traceable.{gives_fault, gives_traceable, lax_traceable, overlap_traceable}
use Rattle.cap_trace.proofs.tracing.path_of_pointer.Goals as goal

pub returns-clause-reports : goal.returns-clause-reports
returns-clause-reports g c =
    subst (λ (u : ℕ). ReportsPath g.S.StepSlot.slot (g.M.Segments.segments c.args.message.now) u c.args.number c.args.steps.now c.traced.result c.traced.new.steps)
    c.depth.ensures.value c.traced.ensures.reports

pub returns-clause-gives : goal.returns-clause-gives
returns-clause-gives g c = λ path a. gives_traceable g.S.StepSlot.slot _ _ _ path _ _ _ (returns-clause-reports g c) a

pub returns-clause-fault : goal.returns-clause-fault
returns-clause-fault g c = λ words r f e. gives_fault g.S.StepSlot.slot _ words _ _ r _ _ _ (returns-clause-reports g c) f e

pub returns-clause-lax : goal.returns-clause-lax
returns-clause-lax g c = λ words s w what a f.
    gives_traceable g.S.StepSlot.slot _ _ _ f.path _ _ _ (returns-clause-reports g c) (lax_traceable _ words _ s w what _ a f)

pub returns-clause-overlap : goal.returns-clause-overlap
returns-clause-overlap g c = λ words s w a f.
    gives_traceable g.S.StepSlot.slot _ _ _ f.path _ _ _ (returns-clause-reports g c) (overlap_traceable _ words _ s w _ a f)
