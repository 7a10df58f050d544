use Rattle.std.proofs.Common.{rules}
use Rattle.cap_spec.proofs.Bytes.Plain.{words_exact}
use Rattle.cap_canon.proofs.appended.AppendedWordsCopyOutput.set.Goals as goal

pub write_word-requires : goal.write_word-requires
write_word-requires c = search (rules, words_exact)
