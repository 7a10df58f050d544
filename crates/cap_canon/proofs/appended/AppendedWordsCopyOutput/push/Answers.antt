use Rattle.std.proofs.Common.{rules}
use Rattle.cap_spec.proofs.Bytes.Plain.{words_exact}
use Rattle.cap_canon.proofs.Afters.{word_joined}
use Rattle.cap_canon.proofs.appended.AppendedWordsCopyOutput.push.Goals as goal

pub unwrap-requires : goal.unwrap-requires
unwrap-requires c = search (rules, words_exact)

pub returns-clause-words : goal.returns-clause-words
returns-clause-words c = search (rules, word_joined)
