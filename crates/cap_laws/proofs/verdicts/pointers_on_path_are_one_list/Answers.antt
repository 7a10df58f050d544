use Rattle.cap_spec.proofs.Verdicts.OnPath.{one_path_list}
use Rattle.cap_laws.proofs.verdicts.pointers_on_path_are_one_list.Goals as goal

pub returns : goal.returns
returns c = one_path_list
