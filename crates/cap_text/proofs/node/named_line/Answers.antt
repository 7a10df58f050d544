use Rattle.cap_spec.proofs.ProofNames.{rules}
use Rattle.std.proofs.Common.{append_assoc}
use Rattle.cap_text.proofs.Nodes.{four_texts}
use Rattle.cap_text.proofs.node.named_line.Goals as goal

pub returns : goal.returns
returns c = search (rules, four_texts, append_assoc)
