use Rattle.cap_spec.proofs.ProofNames.{rules}
use Rattle.cap_text.proofs.Writing.{writes_all}
use Rattle.cap_text.proofs.page.write_bytes.Goals as goal

pub returns : goal.returns
returns g c = search (rules, writes_all)
