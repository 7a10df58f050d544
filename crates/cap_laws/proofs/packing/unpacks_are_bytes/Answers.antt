use Rattle.cap_spec.proofs.Packed.UnpackedWords.{unpacks_are_bytes}
use Rattle.cap_laws.proofs.packing.unpacks_are_bytes.Goals as goal

pub returns : goal.returns
returns c = unpacks_are_bytes
