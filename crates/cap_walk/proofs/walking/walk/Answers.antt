use Rattle.cap_spec.proofs.ProofNames.{rules}
use Rattle.cap_walk.proofs.Verdicts.{begins, no_root_at}
use Rattle.cap_walk.proofs.walking.walk.Goals as goal

pub returns-then-len-eq0 : goal.returns-then-len-eq0
returns-then-len-eq0 g c = search (rules, no_root_at)

pub walk_on-requires : goal.walk_on-requires
walk_on-requires g c = search (rules, begins)
