use Rattle.std.proofs.Common.{refl}
use Rattle.cap_run.proofs.engines.whole.explain_messages.Goals as goal

pub returns : goal.returns
returns g c =
    let e = c.in-Err.ensures in
    record { reported = e.reported; broken = rw c.no_break-at.ensures at (e.broken refl) }
