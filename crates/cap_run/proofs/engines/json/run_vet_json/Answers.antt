use Rattle.cap_run.proofs.Demanding.{never_allocates}
use Rattle.cap_run.proofs.engines.json.run_vet_json.Goals as goal
use Rattle.cap_spec.proofs.ProofNames.{rules}

pub returns : goal.returns
returns g c = search (rules, never_allocates)
