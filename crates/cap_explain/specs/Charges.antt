-- The charge up to the pointer at which a message passes the word limit, by its refusal (profile).
use Rattle.std.specs.Prelude.{IfNone, IfSome, List, None, Option, Some, ℕ, ◌+◌, ◌≡◌}
use Rattle.std.proofs.Common.{inl, inr}
use Rattle.cap_spec.specs.Faults.{IsFirstReason, IsRefused, is_deep, is_past, is_wrong}
use Rattle.cap_spec.specs.declared.Reason.{Reason}
use Rattle.cap_spec.specs.declared.Refusal.{Refusal}
use Rattle.cap_spec.specs.declared.StrictRefusal.{StrictRefusal}
use Rattle.cap_spec.specs.declared.StrictRefusal.TheVariants.{ManySegments, Pointer, Refused}
use Rattle.cap_walk.specs.ChargeUpTo.{IsChargeUpTo}
use Rattle.cap_walk.specs.Demands.{IsDemandFault, words_under}
use Rattle.cap_walk.specs.declared.demands.Demands.{Demands}

-- what was charged before the pointer, and what the pointer costs, if that is past the word limit
abbrev pub reason_charge : (m : List (List ℕ)) (words depth before s w level : ℕ) (v : Reason)
    → IsFirstReason m words depth before s w level v → Option ℕ
reason_charge m words depth before s w level v (is_wrong wrong) = None
reason_charge m words depth before s w level v (is_deep named deep) = None
reason_charge m words depth before s w level v (is_past cost named shallow costs past) =
    Some (before + cost)

abbrev pub refusal_charge : (m : List (List ℕ)) (words depth : ℕ) (r : Refusal)
    → IsRefused m words depth r → Option ℕ
refusal_charge m words depth r (inl none) = None
refusal_charge m words depth r (inr f) =
    let at = f.fault in
    reason_charge m words depth at.charge r.segment r.word at.numbered.level r.reason at.reason

-- the same of a message that doesn't meet the demands
abbrev pub fault_charge : (demands : Demands) (m : List (List ℕ)) (words depth : ℕ)
    (fault : StrictRefusal) → IsDemandFault demands m words depth fault → Option ℕ
fault_charge demands m words depth (Refused r) h =
    refusal_charge m (words_under demands m words) depth r h
fault_charge demands m words depth ManySegments h = None
fault_charge demands m words depth (Pointer what s w pointers) h = None

-- the charge up to that pointer, or that the word limit isn't passed
abbrev pub HasChargeUpTo : List (List ℕ) → ℕ → ℕ → Option ℕ → Type 0
HasChargeUpTo m words depth charge = IfSome charge (IsChargeUpTo m words depth)
    × IfNone charge ((n : ℕ) → ¬ IsChargeUpTo m words depth n)

-- what is said of a refusal of a message within limits
abbrev pub ChargeOf : List (List ℕ) → ℕ → ℕ → StrictRefusal → Option ℕ → Type 0
ChargeOf m words depth (Refused r) charge = IsRefused m words depth r → HasChargeUpTo m words depth charge
ChargeOf m words depth ManySegments charge = charge ≡ None
ChargeOf m words depth (Pointer what s w pointers) charge = charge ≡ None
