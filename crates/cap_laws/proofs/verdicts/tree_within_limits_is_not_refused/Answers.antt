use Rattle.cap_spec.proofs.Verdicts.OneVerdict.{within_not_justified}
use Rattle.cap_laws.proofs.verdicts.tree_within_limits_is_not_refused.Goals as goal

pub returns : goal.returns
returns c = within_not_justified
