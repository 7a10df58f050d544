-- Nothing else is reported of the bytes and the path.
use Rattle.std.proofs.Common.{refl}
use Rattle.cap_calls.proofs.Gotten.{one_get_reported}
use Rattle.cap_calls.proofs.calls.get.get.Goals as goal

pub returns-clause-reports : goal.returns-clause-reports
returns-clause-reports c = (c.find-found.result, c.find-found.ensures, (refl, refl))

pub returns-clause-only : goal.returns-clause-only
returns-clause-only c = λ a n r h.
    one_get_reported c.args.limits.now c.args.bytes.now c.args.path.now _ a _ n _ r (returns-clause-reports c) h
