use Rattle.std.proofs.Common.{rules}
use Rattle.cap_words.proofs.word.word_of.Goals as goal

pub returns-clause-value : goal.returns-clause-value
returns-clause-value c = search rules
