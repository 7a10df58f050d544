use Rattle.cap_spec.proofs.ProofNames.{rules}
use Rattle.cap_vet.proofs.Views.{shown_byte, shown_no_byte}
use Rattle.cap_vet.proofs.nodes.view.View.byte.Goals as goal

pub returns-in_err-word : goal.returns-in_err-word
returns-in_err-word g c = search (rules, shown_no_byte)

pub returns : goal.returns
returns g c =
    let place = c.args.self.now.found.place in
    search (rules, shown_byte)
