use Rattle.cap_spec.proofs.ProofNames.{append_assoc, rules}
use Rattle.cap_text.proofs.Nodes.{five_texts}
use Rattle.cap_text.proofs.node.child_line.Goals as goal

pub returns : goal.returns
returns c = search (rules, five_texts, append_assoc)
