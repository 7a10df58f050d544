-- The steps of a path that are still to be read from its text (profile).
use Rattle.std.specs.List.{AllByRecursion}
use Rattle.std.specs.Prelude.{List, flat_map, length, ℕ, ◌≡◌}
use Rattle.cap_spec.specs.PathTexts.{IsStep, step_text}
use Rattle.cap_spec.specs.declared.Step.{Step}
use Rattle.cap_path.specs.declared.steps.PathSteps.{PathSteps}

-- these steps are left, and their texts are what is left of the text
abbrev pub AreStepsLeft : PathSteps → List Step → Type 0
AreStepsLeft left steps = AllByRecursion IsStep steps × (left.rest.now ≡ flat_map step_text steps)

-- how many bytes are left of the text
abbrev pub text_bytes_left : PathSteps → ℕ
text_bytes_left left = length left.rest.now
