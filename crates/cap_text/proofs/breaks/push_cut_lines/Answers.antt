use Rattle.cap_spec.proofs.ProofNames.{rules}
use Rattle.cap_text.proofs.Appends.{then}
use Rattle.cap_text.proofs.breaks.push_cut_lines.Goals as goal

pub returns-clause-items : goal.returns-clause-items
returns-clause-items c = search (rules, then)
