-- A look at each pointer shows where the path ends, or else the path is followed.
use Rattle.std.proofs.Math.Logic.{∥∥₁_map}
use Rattle.cap_vet.proofs.nodes.getting.follow_path.Goals as goal

pub returns-in-Some-clause-leads : goal.returns-in-Some-clause-leads
returns-in-Some-clause-leads g c = ∥∥₁_map c.in-Some.ensures.leads (λ r. (r.0, (r.1, r.2)))
