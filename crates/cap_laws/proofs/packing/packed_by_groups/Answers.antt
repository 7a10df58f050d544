use Rattle.std.proofs.Common.{refl}
use Rattle.cap_spec.proofs.Packed.Packing.{pack_text-front}
use Rattle.cap_laws.proofs.packing.packed_by_groups.Goals as goal

pub returns : goal.returns
returns c = (refl, pack_text-front)
