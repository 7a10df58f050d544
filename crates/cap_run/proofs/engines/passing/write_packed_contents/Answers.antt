-- Each turn writes the text of the next segment.
use Rattle.cap_spec.proofs.ProofNames.{rules}
use Rattle.cap_run.proofs.Passing.{left_less, left_stops, texts_from}
use Rattle.cap_run.proofs.engines.passing.write_packed_contents.Goals as goal

pub returns-in-Err : goal.returns-in-Err
returns-in-Err g c = search (rules, left_stops, texts_from)

pub texts-preserved : goal.texts-preserved
texts-preserved g c = search (rules, left_less, texts_from)
