use Rattle.cap_vet.proofs.Views.{count_shown}
use Rattle.cap_vet.proofs.nodes.view.View.count.Goals as goal

pub returns-in-Scalars : goal.returns-in-Scalars
returns-in-Scalars g c = count_shown (g.M.Segments.segments c.args.self.now.message.now) _ _ c.in-Scalars.is
