use Rattle.cap_spec.proofs.Packed.UnpackedWords.{unpacked_are_words}
use Rattle.cap_laws.proofs.packing.unpacked_are_words.Goals as goal

pub returns : goal.returns
returns c = unpacked_are_words
