use Rattle.cap_spec.proofs.Bytes.Plain.{plain_rest_of, plain_split_by, plain_words_of}
use Rattle.cap_laws.proofs.plain.one_split.Goals as goal

pub returns : goal.returns
returns c = λ bytes all words rest. (
  (λ s. (plain_words_of bytes words rest s, plain_rest_of bytes words rest s)),
  (λ e. plain_split_by bytes words rest all e.0 e.1),
)
