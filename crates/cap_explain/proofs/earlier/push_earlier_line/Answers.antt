use Rattle.cap_spec.proofs.ProofNames.{rules}
use Rattle.cap_explain.proofs.Appends.{then}
use Rattle.cap_explain.proofs.earlier.push_earlier_line.Goals as goal

pub returns : goal.returns
returns c = search (rules, then)
