use Rattle.cap_spec.specs.declared.Step.{Step}
use Rattle.cap_spec.proofs.ProofNames.{List, flat_map, get_or, length, take, ◌-◌, ◌<◌, ◌≡◌, ◌≤◌, AllByRecursion, IsStep}
use Rattle.cap_spec.proofs.ProofNames.{step_text}
use Rattle.cap_path.proofs.steps.read_path.Given as goal

abbrev pub invariant-loop-at : goal.invariant-loop-at
invariant-loop-at l = (done : List Step) × AllByRecursion IsStep done × (take l.at l.text ≡ flat_map step_text done)
    × (l.at ≤ length l.text) × (l.at < length l.text → get_or l.text l.at 0 ≡ 47)

abbrev pub decreases-loop-at : goal.decreases-loop-at
decreases-loop-at l = length l.text - l.at
