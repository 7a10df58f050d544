use Rattle.std.proofs.Common.{true}
use Rattle.cap_run.specs.Reporting.{AllocatesNone}
use Rattle.cap_run.proofs.Demanding.{allocates_as}
use Rattle.cap_run.proofs.engines.explained.run_explain_json.Goals as goal

pub returns : goal.returns
returns g c =
    let e = c.explain_messages.ensures in
    record {
      reported = allocates_as g.S.WordSource g.O.ByteOut true _ _ _ _ _ _ _ _ AllocatesNone (λ m h. h.1) _ e.reported;
      broken = e.broken;
    }
