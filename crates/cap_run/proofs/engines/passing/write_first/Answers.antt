use Rattle.cap_text.proofs.Writing.{writes_all}
use Rattle.cap_run.proofs.engines.passing.write_first.Goals as goal
use Rattle.cap_spec.proofs.ProofNames.{rules}

pub returns : goal.returns
returns g c = search (rules, writes_all)
