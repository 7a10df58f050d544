use Rattle.cap_spec.proofs.ProofNames.{List, None, ◌++◌, ◌≡◌, Spot}
use Rattle.cap_vet.specs.VetNames.{Step, Arrives}
use Rattle.cap_vet.proofs.nodes.getting.follow_near.Given as goal

abbrev pub invariant-loop-step : goal.invariant-loop-step
invariant-loop-step g l =
    (done : List Step)
    × ((b : Spot) × Arrives (g.M.Segments.segments l.message) l.words l.depth done b l.at)
    × ((steps : List Step) → g.S.StepSource.gives l.fn.path steps → (more : List Step) × (steps ≡ done ++ more) × g.S.StepSource.gives l.left more)
    × (l.at.lax ≡ None)

abbrev pub decreases-loop-step : goal.decreases-loop-step
decreases-loop-step g l = g.S.StepSource.most l.left
