use Rattle.cap_spec.proofs.ProofNames.{ap, refl, sym, ◌++◌, plain_text}
use Rattle.cap_words.proofs.PlainEncoding.{part_begins, word_put}
use Rattle.cap_words.proofs.plain_sink.PlainSinkWordSink.put.Goals as goal

pub returns-in-Ok-clause-put : goal.returns-in-Ok-clause-put
returns-in-Ok-clause-put g c = λ ws. word_put _ _ c.bytes_of.result c.args.word ws c.bytes_of.ensures.value c.in-Ok.ensures.ok

pub returns-in-Err-clause-err : goal.returns-in-Err-clause-err
returns-in-Err-clause-err g c = (
  refl,
  λ ws. part_begins _ _ c.in-Err.ensures.err.0 c.bytes_of.result (plain_text ws) _
      (ap (λ l. l ++ plain_text ws) (sym c.bytes_of.ensures.value)) c.in-Err.ensures.err.2,
)
