use Rattle.std.proofs.Common.{rules}
use Rattle.cap_spec.proofs.Bytes.Plain.{words_exact}
use Rattle.cap_canon.proofs.FirstWords.{first_words_count, word_appended}
use Rattle.cap_canon.proofs.word_bytes.WordBytesCopyOutput.push.Goals as goal

pub write_word-requires : goal.write_word-requires
write_word-requires c = search (rules, first_words_count, words_exact)

pub returns : goal.returns
returns c = search (rules, first_words_count, words_exact, word_appended)

pub invariant_of-self : goal.invariant_of-self
invariant_of-self c = search (rules, first_words_count, words_exact)
