use Rattle.cap_run.proofs.engines.whole.print_messages.Goals as goal

pub returns : goal.returns
returns g c = c.print_all.ensures.reported
