use Rattle.cap_spec.specs.Unpacking.{unpacked}
use Rattle.cap_spec.proofs.Packed.OneUnpacking.{becomes, either, unpacks_not_cut, words_of_either}
use Rattle.cap_laws.proofs.packing.one_unpacking.Goals as goal

pub returns : goal.returns
returns c = λ bytes all.
    ((unpacked bytes, either bytes (becomes bytes all), words_of_either bytes), unpacks_not_cut bytes)
