use Rattle.cap_spec.proofs.ProofNames.{rules}
use Rattle.cap_text.proofs.Appends.{then}
use Rattle.cap_text.proofs.breaks.push_guessed_lines.Goals as goal

pub returns : goal.returns
returns c = search (rules, then)
