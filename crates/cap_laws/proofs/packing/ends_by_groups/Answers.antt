use Rattle.cap_spec.proofs.Packed.PackedEnds.{ends_cut, ends_none, ends_off}
use Rattle.cap_laws.proofs.packing.ends_by_groups.Goals as goal

pub returns : goal.returns
returns c = (ends_none, ends_off, ends_cut)
