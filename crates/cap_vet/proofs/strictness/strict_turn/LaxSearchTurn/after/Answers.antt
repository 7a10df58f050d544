use Rattle.cap_vet.proofs.Laxness.{knows_on}
use Rattle.cap_vet.proofs.strictness.strict_turn.LaxSearchTurn.after.Goals as goal

pub returns-else-may_be_lax-clause-ok : goal.returns-else-may_be_lax-clause-ok
returns-else-may_be_lax-clause-ok g c = λ seen a l k.
    knows_on _ seen a c.args.s c.args.w c.args.pointers _ _ l (c.requires.strict c.if-may_be_lax.false) k

pub returns-then-may_be_lax-clause-ok : goal.returns-then-may_be_lax-clause-ok
returns-then-may_be_lax-clause-ok g c = λ seen a l k. c.look_at.ensures seen a c.args._cost l k
