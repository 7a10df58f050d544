use Rattle.cap_walk.proofs.Looks.{followed_deep, followed_past}
use Rattle.cap_walk.proofs.looking.follow_within.Goals as goal
use Rattle.cap_spec.proofs.ProofNames.{rules, arith}

pub returns-then-deepest_level-from-clause-err : goal.returns-then-deepest_level-from-clause-err
returns-then-deepest_level-from-clause-err g c = λ words before e le.
    followed_deep c.in_ok-followed.followed c.in_ok-followed.ensures.ok (search rules)

pub returns-then-charge-left-clause-err : goal.returns-then-charge-left-clause-err
returns-then-charge-left-clause-err g c = λ words before e le.
    followed_past c.in_ok-followed.followed c.in_ok-followed.ensures.ok
    (omega (arith, c.if-deepest_level-from.false, c.deepest_level.ensures, c.from.ensures)) (omega (arith, c.if-charge-left.true, c.charge.ensures, e)) le
