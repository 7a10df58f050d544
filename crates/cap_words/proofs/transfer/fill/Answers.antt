use Rattle.cap_spec.proofs.ProofNames.{rules}
use Rattle.cap_words.proofs.Turns.{read_more}
use Rattle.cap_words.proofs.transfer.fill.Goals as goal

pub returns-in-Ok-clause-bytes : goal.returns-in-Ok-clause-bytes
returns-in-Ok-clause-bytes g c = search (rules, read_more)
