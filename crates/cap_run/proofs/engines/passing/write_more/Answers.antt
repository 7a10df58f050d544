use Rattle.cap_run.proofs.Passing.{writes_more}
use Rattle.cap_run.proofs.engines.passing.write_more.Goals as goal
use Rattle.cap_spec.proofs.ProofNames.{rules}

pub returns : goal.returns
returns g c = search (rules, writes_more)
