-- A path is followed from the root on.
use Rattle.cap_spec.proofs.ProofNames.{[]}
use Rattle.cap_vet.proofs.nodes.getting.follow_any.Goals as goal

pub returns-in-Err-clause-leads : goal.returns-in-Err-clause-leads
returns-in-Err-clause-leads g c = ∣ ([], c.in-Err.ensures.err []) ∣₁
