-- Nothing else is reported of the bytes and the steps.
use Rattle.std.proofs.Common.{refl}
use Rattle.cap_calls.proofs.RangeGotten.{one_range_reported}
use Rattle.cap_calls.proofs.calls.get_range.get_range.Goals as goal

pub returns-clause-reports : goal.returns-clause-reports
returns-clause-reports c = (c.find-what.result, c.find-what.ensures, (refl, refl), refl)

pub returns-clause-only : goal.returns-clause-only
returns-clause-only c = λ a n new r h.
    one_range_reported c.args.limits.now c.args.bytes.now c.args.steps.now c.args.varying c.args.nodes.now _ a _ n _ new _ r (returns-clause-reports c) h
