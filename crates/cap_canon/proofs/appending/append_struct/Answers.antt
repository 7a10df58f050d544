use Rattle.cap_spec.proofs.ProofNames.{rules}
use Rattle.cap_canon.proofs.Ranges.{words_split}
use Rattle.cap_canon.proofs.appending.append_struct.Goals as goal

pub returns-then-part-clause-words : goal.returns-then-part-clause-words
returns-then-part-clause-words g c = search (rules, words_split)
