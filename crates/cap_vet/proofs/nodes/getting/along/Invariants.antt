use Rattle.cap_spec.proofs.ProofNames.{List, ◌++◌, ◌≡◌, Spot}
use Rattle.cap_vet.specs.VetNames.{Step, Arrives}
use Rattle.cap_vet.proofs.nodes.getting.along.Given as goal

abbrev pub invariant-loop-step : goal.invariant-loop-step
invariant-loop-step g l =
    (done : List Step)
    × ((first : List Step) (a : Spot) → Arrives (g.M.Segments.segments l.message) l.words l.depth first a l.fn.from
    → (b : Spot) × Arrives (g.M.Segments.segments l.message) l.words l.depth (first ++ done) b l.at)
    × ((steps : List Step) → g.S.StepSource.gives l.fn.rest steps → (more : List Step) × (steps ≡ done ++ more) × g.S.StepSource.gives l.left more)

abbrev pub decreases-loop-step : goal.decreases-loop-step
decreases-loop-step g l = g.S.StepSource.most l.left
