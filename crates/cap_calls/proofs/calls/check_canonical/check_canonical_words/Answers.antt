-- The limits are those of a copy.
use Rattle.std.proofs.Common.{subst, sym}
use Rattle.cap_calls.specs.Calls.{ReportsCheck}
use Rattle.cap_calls.specs.declared.limits.CallLimits.{CallLimits}
use Rattle.cap_calls.proofs.calls.check_canonical.check_canonical_words.Goals as goal

pub returns-clause-only : goal.returns-clause-only
returns-clause-only c = λ a r h.
    c.check_canonical.ensures.only a r (subst (λ (l : CallLimits). ReportsCheck l c.args.words.now a r) (sym c.of_copy.ensures) h)
