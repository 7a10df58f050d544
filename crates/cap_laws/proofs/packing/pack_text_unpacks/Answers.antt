use Rattle.cap_spec.proofs.Packed.Repacking.{pack_text_unpacks}
use Rattle.cap_laws.proofs.packing.pack_text_unpacks.Goals as goal

pub returns : goal.returns
returns c = pack_text_unpacks
