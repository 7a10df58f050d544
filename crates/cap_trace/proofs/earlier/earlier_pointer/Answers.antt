use Rattle.std.proofs.Common.{subst, ℕ}
use Rattle.cap_trace.specs.EarlierPointers.{ReportsEarlier}
use Rattle.cap_trace.proofs.Sharing.{one_earlier, reported_earlier}
use Rattle.cap_trace.proofs.Traceable.{overlap_traceable}
use Rattle.cap_trace.proofs.earlier.earlier_pointer.Goals as goal

pub returns-clause-reports : goal.returns-clause-reports
returns-clause-reports g c =
    subst (λ (u : ℕ). ReportsEarlier (g.M.Segments.segments c.args.message.now) u c.args.number c.earlier_within.result)
    c.depth.ensures.value c.earlier_within.ensures

pub returns-clause-gives : goal.returns-clause-gives
returns-clause-gives g c = λ path s w n a h.
    one_earlier _ path s w n c.earlier_within.result (reported_earlier _ _ _ path c.earlier_within.result a (returns-clause-reports g c)) h

pub returns-clause-overlap : goal.returns-clause-overlap
returns-clause-overlap g c = λ words s w a f.
    reported_earlier _ _ _ f.path c.earlier_within.result (overlap_traceable _ words _ s w _ a f) (returns-clause-reports g c)
