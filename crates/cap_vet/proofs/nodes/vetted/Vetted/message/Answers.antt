use Rattle.cap_vet.proofs.Keeping.{vetted_kept}
use Rattle.cap_vet.proofs.nodes.vetted.Vetted.message.Goals as goal

pub returns-clause-accepted : goal.returns-clause-accepted
returns-clause-accepted g c = vetted_kept _ _ c.args.self.now.accepted
