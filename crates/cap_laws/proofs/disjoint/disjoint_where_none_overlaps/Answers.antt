use Rattle.cap_spec.proofs.Disjoint.Overlaps.{disjoint_of_none, none_of_disjoint}
use Rattle.cap_laws.proofs.disjoint.disjoint_where_none_overlaps.Goals as goal

pub returns : goal.returns
returns c = λ m. (none_of_disjoint m, disjoint_of_none m)
