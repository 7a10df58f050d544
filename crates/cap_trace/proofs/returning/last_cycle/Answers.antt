use Rattle.std.proofs.Common.{subst, ℕ}
use Rattle.cap_trace.specs.Returns.{ReportsCycle}
use Rattle.cap_trace.proofs.Returns.{fault_cycle, reported_cycle}
use Rattle.cap_trace.proofs.returning.last_cycle.Goals as goal

pub returns-clause-reports : goal.returns-clause-reports
returns-clause-reports g c =
    subst (λ (u : ℕ). ReportsCycle (g.M.Segments.segments c.args.message.now) u c.args.number c.sought.result)
    c.depth.ensures.value c.sought.ensures

pub returns-clause-gives : goal.returns-clause-gives
returns-clause-gives g c = λ path a. reported_cycle _ _ _ path c.sought.result a (returns-clause-reports g c)

pub returns-clause-fault : goal.returns-clause-fault
returns-clause-fault g c = λ words r f e. fault_cycle _ words _ _ r c.sought.result (returns-clause-reports g c) f e
