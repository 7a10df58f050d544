use Rattle.cap_spec.proofs.ProofNames.{rules}
use Rattle.cap_words.proofs.Known.{bytes_dropped}
use Rattle.cap_words.proofs.slice_in.SliceInByteIn.read.Goals as goal

pub invariant_of-self : goal.invariant_of-self
invariant_of-self c = search (rules, bytes_dropped)
