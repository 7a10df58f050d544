use Rattle.cap_run.proofs.engines.check.run_check_with.Goals as goal

pub returns : goal.returns
returns g c = c.print_messages.ensures
