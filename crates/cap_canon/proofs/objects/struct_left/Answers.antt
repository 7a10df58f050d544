use Rattle.cap_canon.proofs.Found.{struct_object}
use Rattle.cap_canon.proofs.objects.struct_left.Goals as goal
use Rattle.cap_spec.proofs.ProofNames.{rules}

pub returns : goal.returns
returns g c = search (rules, struct_object)
