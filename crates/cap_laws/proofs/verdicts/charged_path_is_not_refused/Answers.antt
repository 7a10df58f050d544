use Rattle.std.proofs.Common.{arith}
use Rattle.cap_spec.proofs.Verdicts.OnPath.{path_not_refused}
use Rattle.cap_laws.proofs.verdicts.charged_path_is_not_refused.Goals as goal

pub returns : goal.returns
returns c m words depth path left refusal charged =
    path_not_refused m words depth path charged.ways charged.cost refusal charged.on_path charged.some
    charged.costs charged.shallow (omega (arith, charged.consumed))
