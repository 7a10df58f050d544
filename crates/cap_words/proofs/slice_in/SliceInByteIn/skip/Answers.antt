use Rattle.cap_spec.proofs.ProofNames.{rules}
use Rattle.std.proofs.lemmas.List.{take_rest}
use Rattle.cap_words.proofs.Known.{bytes_dropped}
use Rattle.cap_words.proofs.slice_in.SliceInByteIn.skip.Goals as goal

pub invariant_of-self : goal.invariant_of-self
invariant_of-self c = search (rules, take_rest, bytes_dropped)
