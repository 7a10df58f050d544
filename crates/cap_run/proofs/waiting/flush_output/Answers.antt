use Rattle.cap_text.proofs.Writing.{writes_kept}
use Rattle.cap_run.proofs.waiting.flush_output.Goals as goal
use Rattle.cap_spec.proofs.ProofNames.{rules}

pub returns-then-waits : goal.returns-then-waits
returns-then-waits g c = search (rules, writes_kept)
