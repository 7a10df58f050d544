use Rattle.cap_spec.proofs.Verdicts.Refusals.{within_not_refused}
use Rattle.cap_laws.proofs.verdicts.accepted_is_not_refused.Goals as goal

pub returns : goal.returns
returns c = within_not_refused
