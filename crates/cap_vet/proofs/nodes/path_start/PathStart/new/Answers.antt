-- The steps lead where they were followed to.
use Rattle.cap_vet.proofs.nodes.path_start.PathStart.new.Goals as goal
use Rattle.cap_spec.proofs.ProofNames.{common_steps, arith}

pub returns-clause-start : goal.returns-clause-start
returns-clause-start g c = grind (arith, common_steps)
