use Rattle.cap_spec.proofs.ProofNames.{rules}
use Rattle.cap_run.proofs.Demanding.{default_none}
use Rattle.cap_run.proofs.engines.hash.run_hash.Goals as goal

pub returns : goal.returns
returns g c = search (rules, default_none c.default.result c.default.ensures.0 c.default.ensures.1)
