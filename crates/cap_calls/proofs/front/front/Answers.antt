-- What the fault of the frame says.
use Rattle.std.proofs.Common.{Err, refl, subst}
use Rattle.cap_frame.specs.Framed.{ReportsFront}
use Rattle.cap_calls.proofs.front.front.Goals as goal

pub returns-in-Err-clause-none : goal.returns-in-Err-clause-none
returns-in-Err-clause-none c = (
  c.in-Some.ensures.some.0 refl,
  subst (λ n. ReportsFront n c.args.bytes.now (Err c.in-Err.fault)) c.in-Some.ensures.size c.in-Err.ensures.reports,
)
