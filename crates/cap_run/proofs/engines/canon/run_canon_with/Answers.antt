use Rattle.cap_spec.proofs.ProofNames.{rules}
use Rattle.cap_run.proofs.CanonEnds.{makes_err, makes_ok}
use Rattle.cap_run.proofs.engines.canon.run_canon_with.Goals as goal

pub returns-in-Ok : goal.returns-in-Ok
returns-in-Ok g c = search (rules, makes_ok (rw c.in-Ok.is at c.make_copies-messages.ensures))

pub returns-in-Err : goal.returns-in-Err
returns-in-Err g c = search (rules, makes_err (rw c.in-Err.is at c.make_copies-messages.ensures))
