use Rattle.cap_json_laws.proofs.Sentences.{difference_plain}
use Rattle.cap_json_laws.proofs.difference_sentences_are_unescaped.Goals as goal

pub returns : goal.returns
returns c = λ reason. difference_plain reason
