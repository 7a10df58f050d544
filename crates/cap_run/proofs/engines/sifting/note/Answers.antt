use Rattle.cap_run.proofs.Sifting.{logged_stops}
use Rattle.cap_run.proofs.engines.sifting.note.Goals as goal
use Rattle.cap_spec.proofs.ProofNames.{rules}

pub returns-in-Err : goal.returns-in-Err
returns-in-Err g c = search (rules, logged_stops)
