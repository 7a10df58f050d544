-- The charge up to the pointer at which a message passes the word limit (profile).
use Rattle.std.specs.Prelude.{List, ℕ, ◌+◌, ◌≡◌}
use Rattle.cap_spec.specs.Faults.{IsFirstFault}
use Rattle.cap_spec.specs.Paths.{Costs}
use Rattle.cap_spec.specs.declared.Reason.TheVariants.{WordLimit}
use Rattle.cap_spec.specs.declared.Refusal.{Refusal}

-- The charge of the paths before the pointer that the refusal names, and what that pointer costs.
abbrev pub IsChargeUpTo : List (List ℕ) → ℕ → ℕ → ℕ → Type 0
IsChargeUpTo m words depth charge = (r : Refusal) × (f : IsFirstFault m words depth r)
    × (r.reason ≡ WordLimit) × (cost : ℕ) × Costs m r.segment r.word cost
    × (charge ≡ f.fault.charge + cost)
