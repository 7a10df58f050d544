use Rattle.cap_spec.proofs.ProofNames.{rules}
use Rattle.cap_words.proofs.Buffered.{bytes_small}
use Rattle.cap_words.proofs.WholeWords.{whole_text, words_begin, words_put}
use Rattle.cap_words.proofs.plain_sink.PlainSinkWordSink.put_bytes.Goals as goal

pub returns-in-Ok : goal.returns-in-Ok
returns-in-Ok g c = search (rules, words_put, whole_text, bytes_small)

pub returns-in-Err : goal.returns-in-Err
returns-in-Err g c = search (rules, words_begin, whole_text, bytes_small)
