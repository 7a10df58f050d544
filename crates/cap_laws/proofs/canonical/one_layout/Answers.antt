use Rattle.cap_spec.proofs.Canonical.Layouts.{one_layout}
use Rattle.cap_laws.proofs.canonical.one_layout.Goals as goal

pub returns : goal.returns
returns c = λ m n s w s' w' t u x d x' d' h h' l l'. one_layout m s w t x d h l n s' w' u x' d' h' l'
