use Rattle.cap_spec.proofs.ProofNames.{rules}
use Rattle.cap_explain.proofs.Appends.{then}
use Rattle.cap_explain.proofs.lines.push_words_line.Goals as goal

pub returns-clause-items : goal.returns-clause-items
returns-clause-items c = search (rules, then)
