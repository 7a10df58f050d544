use Rattle.cap_spec.proofs.Paths.Walks.{one_coming, one_reached, one_step, one_walk}
use Rattle.cap_laws.proofs.paths.one_spot.Goals as goal

pub returns-clause-step : goal.returns-clause-step
returns-clause-step c = one_step

pub returns-clause-walk : goal.returns-clause-walk
returns-clause-walk c = one_walk

pub returns-clause-path : goal.returns-clause-path
returns-clause-path c = one_coming

pub returns-clause-pointer_word : goal.returns-clause-pointer_word
returns-clause-pointer_word c = one_reached
