use Rattle.cap_spec.proofs.ProofNames.{append-nil, rules}
use Rattle.cap_run.proofs.engines.explain.write_earlier.Goals as goal

pub returns-in-None : goal.returns-in-None
returns-in-None g c = search (rules, append-nil)
