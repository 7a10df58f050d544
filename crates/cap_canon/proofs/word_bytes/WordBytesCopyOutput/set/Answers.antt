use Rattle.std.proofs.Common.{rules}
use Rattle.cap_canon.proofs.FirstWords.{first_words_count, word_replaced}
use Rattle.cap_canon.proofs.word_bytes.WordBytesCopyOutput.set.Goals as goal

pub returns-clause-words : goal.returns-clause-words
returns-clause-words c = search (rules, first_words_count, word_replaced)
