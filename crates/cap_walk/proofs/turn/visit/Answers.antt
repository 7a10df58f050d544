use Rattle.cap_walk.proofs.Verdicts.{fault_next}
use Rattle.cap_walk.proofs.turn.visit.Goals as goal

pub returns-in-Err-clause-err : goal.returns-in-Err-clause-err
returns-in-Err-clause-err g c = λ runs next. fault_next runs next c.in-Err.ensures.err
