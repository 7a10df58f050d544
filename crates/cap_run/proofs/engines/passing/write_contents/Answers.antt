-- Each turn writes the next segment.
use Rattle.cap_spec.proofs.ProofNames.{rules}
use Rattle.cap_run.proofs.Passing.{contents_from, left_less, left_stops}
use Rattle.cap_run.proofs.engines.passing.write_contents.Goals as goal

pub returns-in-Err : goal.returns-in-Err
returns-in-Err g c = search (rules, left_stops, contents_from)

pub segments-preserved : goal.segments-preserved
segments-preserved g c = search (rules, left_less, contents_from)
