-- The last cycle on the path to a pointer that is refused for a limit (profile).
use Rattle.std.specs.Prelude.{Bool, List, None, Option, false, true, ℕ, ◌≡◌}
use Rattle.std.proofs.Common.{inl, inr}
use Rattle.cap_spec.specs.Faults.{IsRefused}
use Rattle.cap_spec.specs.declared.Reason.{Reason}
use Rattle.cap_spec.specs.declared.Reason.TheVariants.{DepthLimit, WordLimit}
use Rattle.cap_spec.specs.declared.Refusal.{Refusal}
use Rattle.cap_spec.specs.declared.Step.{Step}
use Rattle.cap_spec.specs.declared.StrictRefusal.{StrictRefusal}
use Rattle.cap_spec.specs.declared.StrictRefusal.TheVariants.{ManySegments, Pointer, Refused}
use Rattle.cap_trace.specs.Returns.{IsLastCycle}
use Rattle.cap_trace.specs.declared.returning.Cycle.{Cycle}
use Rattle.cap_walk.specs.Demands.{IsDemandFault, words_under}
use Rattle.cap_walk.specs.declared.demands.Demands.{Demands}

-- whether the reason is a limit that is passed
abbrev pub is_limit : Reason → Bool
is_limit DepthLimit = true
is_limit WordLimit = true
is_limit _ = false

-- The last cycle on the path, if it leads to where a limit is passed. None: it has none, or the reason is another.
abbrev pub IsLimitCycle : Bool → List (List ℕ) → List Step → Option Cycle → Type 0
IsLimitCycle true m path cycle = IsLastCycle m path cycle
IsLimitCycle false m path cycle = cycle ≡ None

-- that of the path to the pointer of a refusal, if it names one
abbrev pub IsRefusedCycle : (m : List (List ℕ)) (words depth : ℕ) (r : Refusal) → IsRefused m words depth r
    → Option Cycle → Type 0
IsRefusedCycle m words depth r (inl none) cycle = cycle ≡ None
IsRefusedCycle m words depth r (inr f) cycle = IsLimitCycle (is_limit r.reason) m f.path cycle

-- the same of a message that doesn't meet the demands
abbrev pub IsFaultCycle : (demands : Demands) (m : List (List ℕ)) (words depth : ℕ) (fault : StrictRefusal)
    → IsDemandFault demands m words depth fault → Option Cycle → Type 0
IsFaultCycle demands m words depth (Refused r) h cycle =
    IsRefusedCycle m (words_under demands m words) depth r h cycle
IsFaultCycle demands m words depth ManySegments h cycle = cycle ≡ None
IsFaultCycle demands m words depth (Pointer what s w pointers) h cycle = cycle ≡ None
