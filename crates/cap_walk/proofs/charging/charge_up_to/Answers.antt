use Rattle.cap_walk.proofs.ChargeUpTo.{accepted_none}
use Rattle.cap_walk.proofs.charging.charge_up_to.Goals as goal

pub returns-in-Ok-clause-none : goal.returns-in-Ok-clause-none
returns-in-Ok-clause-none g c =
    let a = c.in-Ok.ensures.ok.0 in
    accepted_none _ _ _ (a.0, _, _, a.1.within)
