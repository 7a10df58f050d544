use Rattle.cap_spec.proofs.ProofNames.{take, ◌+◌, ◌≡◌, ◌≤◌, Spot}
use Rattle.cap_vet.specs.Charging.{Arrives}
use Rattle.cap_vet.proofs.nodes.charged.get_charged.Given as goal

abbrev pub invariant-loop-step : goal.invariant-loop-step
invariant-loop-step g l = record {
  arrived : (a : Spot) × Arrives (g.M.Segments.segments l.message) l.words l.depth (take l.step-index l.path) a l.at;
  levels : l.at.level ≤ l.step-index + 1;
  few : l.at.pointers ≤ l.step-index + 1;
  kept : l.budget ≡ l.fn.budget;
}
