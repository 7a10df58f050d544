-- Those words are all that the vector has.
use Rattle.cap_spec.proofs.ProofNames.{rules}
use Rattle.cap_words.proofs.WholeWords.{words_text}
use Rattle.cap_canon.proofs.appended.copy_within.Goals as goal

pub returns-clause-text : goal.returns-clause-text
returns-clause-text g c = search (rules, words_text)
