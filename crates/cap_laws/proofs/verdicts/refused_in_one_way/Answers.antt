use Rattle.cap_spec.proofs.Verdicts.OneFault.{one_refusal}
use Rattle.cap_laws.proofs.verdicts.refused_in_one_way.Goals as goal

pub returns : goal.returns
returns c = one_refusal
