use Rattle.cap_spec.proofs.Packed.PackedEnds.{ends_each}
use Rattle.cap_laws.proofs.packing.group_has_ends.Goals as goal

pub returns : goal.returns
returns c = ends_each
