use Rattle.cap_spec.proofs.ProofNames.{rules}
use Rattle.cap_text.proofs.Appends.{both_then}
use Rattle.cap_text.proofs.breaks.push_reason_line.Goals as goal

pub returns-clause-items : goal.returns-clause-items
returns-clause-items c = search (rules, both_then)
