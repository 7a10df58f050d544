use Rattle.std.proofs.Common.{refl}
use Rattle.cap_trace.proofs.Coming.{found_reported}
use Rattle.cap_trace.proofs.tracing.traced.Goals as goal

pub returns-in-Some : goal.returns-in-Some
returns-in-Some g c =
    let path = rw c.as_slice.ensures.value at c.write_path.ensures in
    let (reports, few) = found_reported g.S.StepSlot.slot _ c.args.depth c.args.number _ _ _ c.args.steps.now _ c.in-Some.ensures.found path.count path.steps in
    record { reports = reports; few = few }

pub returns-in-None-clause-reports : goal.returns-in-None-clause-reports
returns-in-None-clause-reports g c = (c.in-None.ensures.missing refl, refl)
