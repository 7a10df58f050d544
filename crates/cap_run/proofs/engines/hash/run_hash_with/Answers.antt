use Rattle.cap_run.proofs.engines.hash.run_hash_with.Goals as goal

pub returns : goal.returns
returns g c = c.vet_all.ensures
