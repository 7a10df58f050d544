use Rattle.cap_spec.proofs.Trees.Charges.{pointers_charged}
use Rattle.cap_laws.proofs.trees.pointers_are_charged.Goals as goal

pub returns : goal.returns
returns c = pointers_charged
