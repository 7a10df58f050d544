use Rattle.std.proofs.Common.{arith}
use Rattle.cap_vet.proofs.NearFound.{finds_object}
use Rattle.cap_vet.proofs.nodes.near_found.object_within.Goals as goal

pub returns-clause-found : goal.returns-clause-found
returns-clause-found c = λ m s w finds here.
    finds_object m _ _ s w _ _ _ finds here (c.object.ensures m s w finds)
    (omega (arith, c.if-deepest-from.false)) (omega (arith, c.if-deepest-from.false, c.levels_taken.ensures.value, c.from.ensures))
