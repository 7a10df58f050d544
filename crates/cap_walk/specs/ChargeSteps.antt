-- The cost of the pointers that a walk has looked at (profile).
use Rattle.std.specs.Prelude.{List, [], length, reverse, ℕ, ◌*◌, ◌^◌, ◌≡◌, ◌≤◌, ◌⊎◌}
use Rattle.cap_spec.specs.Faults.{HasNoRoot, IsFirstFault}
use Rattle.cap_spec.specs.Verdicts.{CostOf}
use Rattle.cap_spec.specs.declared.Refusal.{Refusal}
use Rattle.cap_spec.specs.declared.Step.{Step}

-- what these paths cost, in a number that holds it
abbrev pub HasCost : List (List ℕ) → List (List Step) → ℕ → Type 0
HasCost m seen charge = CostOf m seen charge × (charge ≤ length seen * 2 ^ 64)

-- A walk stopped at this refusal, and this is what the paths before it cost.
abbrev pub SumsBefore : List (List ℕ) → ℕ → ℕ → Refusal → ℕ → Type 0
SumsBefore m words depth refusal charge = (HasNoRoot m refusal × HasCost m [] charge)
    ⊎ ((f : IsFirstFault m words depth refusal) × (seen : List (List Step)) × (f.fault.before ≡ reverse seen)
    × HasCost m seen charge)
