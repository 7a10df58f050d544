use Rattle.cap_vet.proofs.Views.{kind_shown}
use Rattle.cap_vet.proofs.nodes.view.View.kind.Goals as goal

pub returns-clause-shows : goal.returns-clause-shows
returns-clause-shows g c = kind_shown _ _ _ c.args.self.now.own c.args.self.now.inside
