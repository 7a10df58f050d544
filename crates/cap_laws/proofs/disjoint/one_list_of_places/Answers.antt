use Rattle.cap_spec.proofs.Disjoint.Overlaps.{one_used}
use Rattle.cap_laws.proofs.disjoint.one_list_of_places.Goals as goal

pub returns : goal.returns
returns c = one_used
