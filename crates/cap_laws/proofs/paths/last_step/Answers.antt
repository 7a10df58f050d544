use Rattle.cap_spec.proofs.Paths.Walks.{coming_last, walk_last}
use Rattle.cap_laws.proofs.paths.last_step.Goals as goal

pub returns-clause-walk : goal.returns-clause-walk
returns-clause-walk c = walk_last

pub returns-clause-path : goal.returns-clause-path
returns-clause-path c = coming_last
