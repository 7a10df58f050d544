use Rattle.cap_vet.proofs.Laxness.{finds_first, knows_none, knows_on}
use Rattle.cap_vet.proofs.strictness.strict_turn.LaxSearch.look_at.Goals as goal
use Rattle.cap_spec.proofs.ProofNames.{rules}

pub returns-in-Some : goal.returns-in-Some
returns-in-Some g c = λ seen a cost l k.
    finds_first _ seen a _ _ _ cost c.in-Some.what l c.in-Some.ensures.some (search (rules, knows_none))

pub returns-in_default : goal.returns-in_default
returns-in_default g c = λ seen a cost l k. knows_on _ seen a _ _ _ cost _ l c.in_default.ensures.none k
