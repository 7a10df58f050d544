use Rattle.cap_run.proofs.engines.vetting.vet_all.Goals as goal

pub returns : goal.returns
returns g c = c.print_messages.ensures
