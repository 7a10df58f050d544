use Rattle.cap_vet.proofs.Founds.{object_found}
use Rattle.cap_vet.proofs.nodes.found.object.Goals as goal

pub returns : goal.returns
returns c = λ m s w x. rw (c.kind_of.ensures, c.of.ensures) (object_found m s w _ _ _ x.0 x.1 _ _ _ x.2)
