-- What was found is what is reported.
use Rattle.std.proofs.Common.{ap, length, refl}
use Rattle.cap_frame.specs.Framed.{frame_bytes, framed_segments}
use Rattle.cap_calls.specs.CallFindings.{without}
use Rattle.cap_calls.specs.CallNames.{framed, Good, Found, CallReport}
use Rattle.cap_calls.proofs.calls.frame.extent.Goals as goal

abbrev good : CallReport → Found
good r = record { answer = Good; count = 0; report = r }

pub returns-in-Ok : goal.returns-in-Ok
returns-in-Ok c =
    let f = c.in-Ok.framed in
    let m = framed_segments f in
    framed m (frame_bytes f) (length m) (good c.none.result)
    (record { are_limits = c.in-Ok.ensures.limits.0; front = c.in-Ok.ensures.front; count = refl })
    (ap good c.none.ensures) c.framed.ensures

pub returns-in-Err : goal.returns-in-Err
returns-in-Err c = without c.in-Err.cause c.in-Err.ensures.none c.without.ensures tt
