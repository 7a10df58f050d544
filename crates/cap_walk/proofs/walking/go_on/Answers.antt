use Rattle.std.proofs.lemmas.List.{nil_from_length}
use Rattle.cap_walk.proofs.walking.go_on.Goals as goal
use Rattle.cap_spec.proofs.ProofNames.{common_steps, arith}

pub returns-in-None-pop-clause-runs : goal.returns-in-None-pop-clause-runs
returns-in-None-pop-clause-runs g c = grind (arith, common_steps, nil_from_length)
