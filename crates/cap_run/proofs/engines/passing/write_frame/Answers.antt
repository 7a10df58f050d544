use Rattle.std.proofs.lemmas.Grind.{flat_map-append}
use Rattle.cap_spec.proofs.ProofNames.{rules}
use Rattle.cap_text.proofs.Writing.{stopped_more}
use Rattle.cap_run.proofs.engines.passing.write_frame.Goals as goal

pub returns-in-Ok : goal.returns-in-Ok
returns-in-Ok g c = search (rules, flat_map-append)

pub returns-in-Err : goal.returns-in-Err
returns-in-Err g c = search (rules, flat_map-append, stopped_more)
