use Rattle.cap_spec.proofs.ProofNames.{arith, rules, common_steps}
use Rattle.cap_words.proofs.word.bytes_of.Goals as goal

pub returns-clause-value : goal.returns-clause-value
returns-clause-value c = search rules

pub returns-clause-inverse : goal.returns-clause-inverse
returns-clause-inverse c = grind (arith, common_steps)
