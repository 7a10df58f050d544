use Rattle.cap_run.proofs.engines.explained.run_explain_exclusive_json.Goals as goal

pub returns : goal.returns
returns g c = c.explain_messages.ensures
