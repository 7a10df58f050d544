use Rattle.cap_text.proofs.Writing.{writes_kept}
use Rattle.cap_run.proofs.engines.sifting.write_note.Goals as goal
use Rattle.cap_spec.proofs.ProofNames.{rules}

pub returns-in-Ok : goal.returns-in-Ok
returns-in-Ok g c = search (rules, writes_kept)
