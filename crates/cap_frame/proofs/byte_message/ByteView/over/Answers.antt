use Rattle.cap_spec.proofs.ProofNames.{rules}
use Rattle.cap_frame.proofs.Cuts.{cut_message}
use Rattle.cap_frame.proofs.byte_message.ByteView.over.Goals as goal

pub invariant_of-result : goal.invariant_of-result
invariant_of-result c = search (rules, cut_message)
