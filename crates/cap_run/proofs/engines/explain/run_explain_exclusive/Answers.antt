use Rattle.cap_run.proofs.engines.explain.run_explain_exclusive.Goals as goal

pub returns : goal.returns
returns g c = c.explain_messages.ensures
