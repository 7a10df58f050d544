-- Where a path leads in a message that needn't be vetted (profile).
use Rattle.std.specs.Prelude.{List, ℕ, ⊤}
use Rattle.cap_spec.specs.SpecNames.{IsRefusedOnPath, Spot}
use Rattle.cap_spec.specs.declared.Step.{Step}
use Rattle.cap_vet.specs.Charging.{Arrives, EndsEarly}
use Rattle.cap_vet.specs.Finding.{IsFound}
use Rattle.cap_vet.specs.declared.nodes.charged.Arrival.{Arrival}
use Rattle.cap_vet.specs.declared.nodes.path_end.PathEnd.{PathEnd}
use Rattle.cap_vet.specs.declared.nodes.path_end.PathEnd.TheVariants.{Early, Refused, To}

-- The path arrives at something, or at nothing, or is refused.
abbrev pub IsPathEnd : List (List ℕ) → ℕ → ℕ → List Step → PathEnd → Type 0
IsPathEnd m words depth path (To at) = (spot : Spot) × Arrives m words depth path spot at
IsPathEnd m words depth path (Early at) = EndsEarly m words depth path at
IsPathEnd m words depth path (Refused refusal) = IsRefusedOnPath m words depth path refusal

-- some path has this end
abbrev pub IsSomePathEnd : List (List ℕ) → ℕ → ℕ → PathEnd → Type 0
IsSomePathEnd m words depth end = ∥ ((path : List Step) × IsPathEnd m words depth path end) ∥₁

-- some path arrives there
abbrev pub SomeArrives : List (List ℕ) → ℕ → ℕ → Arrival → Type 0
SomeArrives m words depth at = ∥ ((path : List Step) × (spot : Spot) × Arrives m words depth path spot at) ∥₁

-- A path that ends at something ends at a spot of the message.
abbrev pub HasFound : List (List ℕ) → PathEnd → Type 0
HasFound m (To at) = ∥ ((spot : Spot) × IsFound m spot at.found) ∥₁
HasFound m _ = ⊤
