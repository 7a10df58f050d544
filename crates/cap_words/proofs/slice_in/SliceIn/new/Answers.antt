use Rattle.cap_spec.proofs.ProofNames.{rules}
use Rattle.cap_words.proofs.Known.{bytes_by_index}
use Rattle.cap_words.proofs.slice_in.SliceIn.new.Goals as goal

pub invariant_of-result : goal.invariant_of-result
invariant_of-result c = search (rules, bytes_by_index)
