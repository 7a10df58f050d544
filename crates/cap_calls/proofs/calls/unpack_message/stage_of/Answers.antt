-- The bytes end inside a message.
use Rattle.std.proofs.Common.{Err, inr, subst}
use Rattle.cap_frame.specs.FrameNames.{ReportsFront, limit_of}
use Rattle.cap_frame.specs.declared.fault.FrontFault.{FrontFault}
use Rattle.cap_calls.proofs.calls.unpack_message.stage_of.Goals as goal

pub returns-in-Err-Truncated : goal.returns-in-Err-Truncated
returns-in-Err-Truncated c =
    inr (subst (λ (e : FrontFault). ReportsFront (limit_of c.args.size) c.args.held.now (Err e)) c.in-Err-Truncated.field-0-is
    c.in-Err-Truncated.ensures.reports)
