use Rattle.cap_spec.proofs.Strict.Unamplified.{within_both}
use Rattle.cap_laws.proofs.unamplified.unamplified_charge_is_bounded.Goals as goal

pub returns : goal.returns
returns c = within_both
