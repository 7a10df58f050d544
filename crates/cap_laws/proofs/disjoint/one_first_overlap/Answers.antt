use Rattle.cap_spec.proofs.Disjoint.Overlaps.{one_overlap}
use Rattle.cap_laws.proofs.disjoint.one_first_overlap.Goals as goal

pub returns : goal.returns
returns c = one_overlap
