use Rattle.std.proofs.Common.{Some, refl}
use Rattle.cap_trace.proofs.Sharing.{earlier_traceable, reported_earlier, traced_is}
use Rattle.cap_trace.proofs.Traceable.{overlap_traceable}
use Rattle.cap_trace.proofs.naming.NamedPath.find_earlier.Goals as goal

pub returns-in-Some-clause-reports : goal.returns-in-Some-clause-reports
returns-in-Some-clause-reports g c = λ path a.
    let h = reported_earlier _ _ _ path (Some c.in-Some.earlier) a c.in-Some.ensures.reports in
    (h, traced_is _ _ _ h.other c.find.new.self c.find.ensures.traced (earlier_traceable _ _ _ path _ _ _ a h))

pub returns-in-Some-clause-missing : goal.returns-in-Some-clause-missing
returns-in-Some-clause-missing g c = λ none. absurd (none c.in-Some.ensures.reports.0 c.in-Some.ensures.reports.1)

pub returns-in-Some-clause-overlap : goal.returns-in-Some-clause-overlap
returns-in-Some-clause-overlap g c = λ words s w a f.
    returns-in-Some-clause-reports g c f.path (overlap_traceable _ words _ s w _ a f)

pub returns-in-None-clause-reports : goal.returns-in-None-clause-reports
returns-in-None-clause-reports g c = λ path a. (c.in-None.ensures.reports path a, refl)

pub returns-in-None-clause-overlap : goal.returns-in-None-clause-overlap
returns-in-None-clause-overlap g c = λ words s w a f.
    returns-in-None-clause-reports g c f.path (overlap_traceable _ words _ s w _ a f)
