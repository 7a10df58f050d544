use Rattle.cap_spec.proofs.ProofNames.{rules, IsMessage}
use Rattle.cap_vet.proofs.Views.{few_shown}
use Rattle.cap_vet.proofs.nodes.view.View.data_word.Goals as goal

pub returns-in-Scalars-clause-few : goal.returns-in-Scalars-clause-few
returns-in-Scalars-clause-few g c =
    let message : IsMessage (g.M.Segments.segments c.args.self.now.message.now) = search rules in
    search (rules, few_shown)
