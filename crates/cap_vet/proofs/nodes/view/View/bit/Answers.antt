use Rattle.cap_spec.proofs.ProofNames.{rules}
use Rattle.cap_vet.proofs.nodes.view.View.bit.Goals as goal

pub returns-in_err-word : goal.returns-in_err-word
returns-in_err-word g c = search rules

pub returns : goal.returns
returns g c = search rules
