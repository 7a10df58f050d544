use Rattle.cap_spec.proofs.Canonical.LayoutWords.{layout_is_words}
use Rattle.cap_laws.proofs.canonical.layout_is_words.Goals as goal

pub returns : goal.returns
returns c = λ m s w t x d a h l. layout_is_words m s w t x d a h l
