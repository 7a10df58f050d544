use Rattle.std.proofs.Common.{inr, refl}
use Rattle.cap_canon.proofs.InOrder.{compared_on, differs_here, has_differed, next_inside, not_lax_word}
use Rattle.cap_canon.proofs.in_order.InOrderTurn.after.Goals as goal

pub next_end-requires-clause-costs : goal.next_end-requires-clause-costs
next_end-requires-clause-costs g c = let k = c.requires.known in (next_inside k.0 k.1 _ k.2 k.3).2

pub returns-in-Some-clause-ok : goal.returns-in-Some-clause-ok
returns-in-Some-clause-ok g c = λ seen a looked known. compared_on seen a _ _ looked c.in-Some.ensures.some known

pub returns-else-not-goes_on-clause-ok : goal.returns-else-not-goes_on-clause-ok
returns-else-not-goes_on-clause-ok g c = λ seen a looked known.
    let near = not_lax_word _ _ _ c.args.may_be_lax c.requires.strict (c.goes_on.ensures c.if-not-goes_on.false) in
    inr (refl, has_differed seen a _ looked near (differs_here seen a _ looked c.in-None.ensures.none known) known)

pub returns-then-not-goes_on-clause-err : goal.returns-then-not-goes_on-clause-err
returns-then-not-goes_on-clause-err g c = let k = c.requires.known in differs_here k.0 k.1 _ k.2 c.in-None.ensures.none k.3
