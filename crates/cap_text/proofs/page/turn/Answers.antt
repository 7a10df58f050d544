use Rattle.cap_spec.proofs.ProofNames.{rules}
use Rattle.cap_text.proofs.Paging.{turned}
use Rattle.cap_text.proofs.page.turn.Goals as goal

pub returns-in-Ok-clause-adds : goal.returns-in-Ok-clause-adds
returns-in-Ok-clause-adds g c = search (rules, turned)
