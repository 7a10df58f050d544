use Rattle.cap_spec.proofs.ProofNames.{rules}
use Rattle.cap_vet.proofs.AtSomePlace.{at_some_place_last, at_some_place_own}
use Rattle.cap_vet.proofs.Stepping.{pointer_goes}
use Rattle.cap_vet.proofs.nodes.found.Found.pointer.Goals as goal

pub returns : goal.returns
returns c = λ m a h.
    let own = rw c.in-Struct.is at h.own in search (rules, pointer_goes, own)

pub overflow_add-result : goal.overflow_add-result
overflow_add-result c = search (rules, at_some_place_own, at_some_place_last)

pub overflow_add-result-2 : goal.overflow_add-result-2
overflow_add-result-2 c = search (rules, at_some_place_own, at_some_place_last)
