use Rattle.cap_run.proofs.engines.json.run_hash_json.Goals as goal

pub returns : goal.returns
returns g c = c.print_messages.ensures
