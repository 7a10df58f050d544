use Rattle.cap_run.proofs.engines.exclusive.run_vet_exclusive_with.Goals as goal

pub returns : goal.returns
returns g c = c.print_messages.ensures
