use Rattle.cap_json_laws.proofs.Sentences.{true_plain}
use Rattle.cap_json_laws.proofs.sentences_are_unescaped.Goals as goal

pub returns : goal.returns
returns c = λ m words depth s w lines reason. true_plain m words depth s w reason.sentence reason.holds
