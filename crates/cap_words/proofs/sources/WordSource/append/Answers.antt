use Rattle.cap_words.proofs.Filling.{none_appended}
use Rattle.cap_words.proofs.sources.WordSource.append.Goals as goal

pub returns-clause-words : goal.returns-clause-words
returns-clause-words g c = none_appended
