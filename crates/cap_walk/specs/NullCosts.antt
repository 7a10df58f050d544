-- The law of the turn that sums what pointers cost: a null word costs nothing.
use Rattle.std.proofs.Common.{arith, inl, refl}
use Rattle.std.specs.Prelude.{List, ℕ, ◌∷◌}
use Rattle.cap_spec.specs.Following.{near}
use Rattle.cap_spec.specs.Messages.{HasWord}
use Rattle.cap_spec.specs.Paths.{Reaches}
use Rattle.cap_spec.specs.declared.Step.{Step}
use Rattle.cap_walk.specs.ChargeSteps.{HasCost}

-- a null word costs nothing
pub null_costs : (m : List (List ℕ)) (seen : List (List Step)) (p : List Step) (level s w charge : ℕ)
    → Reaches m p level s w → HasWord m s w 0 → HasCost m seen charge → HasCost m (p ∷ seen) charge
null_costs m seen p level s w charge r null known = (
  (level, s, w, 0, charge, r, inl (near 0 null (omega arith) refl refl), known.0, omega arith),
  omega (arith, known.1),
)
