use Rattle.cap_spec.proofs.ProofNames.{take, ℕ, ◌≡◌, ReachesSpot}
use Rattle.cap_vet.specs.VetNames.{message_of, node_message, node_spot}
use Rattle.cap_vet.proofs.nodes.vetted.Vetted.get.Given as goal

abbrev pub invariant-loop-step : goal.invariant-loop-step
invariant-loop-step g l =
    (node_message l.node ≡ message_of l.self)
    × ((level : ℕ) × ReachesSpot (g.M.Segments.segments (message_of l.self)) (take l.step-index l.path) level (node_spot l.node))
