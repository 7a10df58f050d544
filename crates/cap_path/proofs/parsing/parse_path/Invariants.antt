use Rattle.cap_spec.specs.declared.Step.{Step}
use Rattle.cap_spec.proofs.ProofNames.{List, ◌++◌, ◌≡◌, AllByRecursion, IsStep, path_text}
use Rattle.cap_path.specs.PathSteps.{AreStepsLeft, text_bytes_left}
use Rattle.cap_path.proofs.parsing.parse_path.Given as goal

abbrev pub invariant-loop-step : goal.invariant-loop-step
invariant-loop-step l =
    (all more : List Step) × AllByRecursion IsStep all × (l.fn.text ≡ path_text all) × (all ≡ l.steps.items ++ more)
    × AreStepsLeft l.left more

abbrev pub decreases-loop-step : goal.decreases-loop-step
decreases-loop-step l = text_bytes_left l.left
