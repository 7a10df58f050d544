-- The path to the pointer that a refusal names (profile).
use Rattle.std.proofs.Common.{inl, inr}
use Rattle.std.specs.Prelude.{List, None, Option, Some, ℕ}
use Rattle.cap_spec.specs.Faults.{IsRefused}
use Rattle.cap_spec.specs.declared.Refusal.{Refusal}
use Rattle.cap_spec.specs.declared.Step.{Step}
use Rattle.cap_spec.specs.declared.StrictRefusal.{StrictRefusal}
use Rattle.cap_spec.specs.declared.StrictRefusal.TheVariants.{ManySegments, Pointer, Refused}
use Rattle.cap_walk.specs.Demands.{IsDemandFault, words_under}
use Rattle.cap_walk.specs.declared.demands.Demands.{Demands}
use Rattle.cap_trace.specs.PointerNumbers.{IsTraceable}
use Rattle.cap_trace.specs.Traces.{IsMissing}

-- the number of the pointer that is named, and 0 if none is
abbrev pub pointer_number : StrictRefusal → ℕ
pointer_number (Refused r) = r.pointers
pointer_number ManySegments = 0
pointer_number (Pointer what s w pointers) = pointers

-- the path to the pointer of a refusal, if it names one
abbrev pub refused_path : (m : List (List ℕ)) (words depth : ℕ) (r : Refusal)
    → IsRefused m words depth r → Option (List Step)
refused_path m words depth r (inl none) = None
refused_path m words depth r (inr f) = Some f.path

-- the same of a message that doesn't meet the demands
abbrev pub fault_path : (demands : Demands) (m : List (List ℕ)) (words depth : ℕ)
    (fault : StrictRefusal) → IsDemandFault demands m words depth fault → Option (List Step)
fault_path demands m words depth (Refused r) h =
    refused_path m (words_under demands m words) depth r h
fault_path demands m words depth ManySegments h = None
fault_path demands m words depth (Pointer what s w pointers) h = Some h.1.2.path

-- The traceable path of this number, or that there is none.
abbrev pub IsTraced : List (List ℕ) → ℕ → ℕ → Option (List Step) → Type 0
IsTraced m depth n None = IsMissing m depth n
IsTraced m depth n (Some path) = IsTraceable m depth n path
