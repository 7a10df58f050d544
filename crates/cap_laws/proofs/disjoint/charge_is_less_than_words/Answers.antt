use Rattle.cap_spec.proofs.Disjoint.Bounds.{charge_below_words}
use Rattle.cap_laws.proofs.disjoint.charge_is_less_than_words.Goals as goal

pub returns : goal.returns
returns c = charge_below_words
