-- What a result of a source, a sink or a byte end says of it before and after the call: whether an
-- error has closed it, and how often it failed (profile).
use Rattle.std.specs.Prelude.{Bool, false, true, ℕ, ◌+◌, ◌≡◌}

-- a call that answered no fault
pub record Works {A : Type 0} (was is : Bool) (before after : A) : Type 0 where
  pub usable : was ≡ false
  pub still : is ≡ false
  pub none_failed : after ≡ before

-- the device of an input failed
pub record Fails (was : Bool) (before after : ℕ) : Type 0 where
  pub usable : was ≡ false
  pub failed : after ≡ before + 1

-- an error had closed the end before
pub record WasBroken {A : Type 0} (was is : Bool) (before after : A) : Type 0 where
  pub broken : was ≡ true
  pub still : is ≡ true
  pub none_failed : after ≡ before

-- how often the device of an output failed, and how often an allocation of it failed
pub record Failures : Type 0 where
  pub device : ℕ
  pub memory : ℕ

-- the device of an output failed
pub record DeviceFails (was : Bool) (before after : Failures) : Type 0 where
  pub usable : was ≡ false
  pub failed : after.device ≡ before.device + 1
  pub memory : after.memory ≡ before.memory

-- an allocation failed
pub record AllocationFails (was : Bool) (before after : Failures) : Type 0 where
  pub usable : was ≡ false
  pub device : after.device ≡ before.device
  pub failed : after.memory ≡ before.memory + 1

-- The same by the members of an end, and its states before and after the call.

abbrev pub NoFault : {S A : Type 0} → (S → Bool) → (S → A) → S → S → Type 0
NoFault broken failures old new = Works (broken old) (broken new) (failures old) (failures new)

-- a failure of its device closes an input
abbrev pub InputFails : {S : Type 0} → (S → Bool) → (S → ℕ) → S → S → Type 0
InputFails broken failures old new = Fails (broken old) (failures old) (failures new) × (broken new ≡ true)

abbrev pub OutputFails : {S : Type 0} → (S → Bool) → (S → Failures) → S → S → Type 0
OutputFails broken failures old new = DeviceFails (broken old) (failures old) (failures new)

abbrev pub MemoryFails : {S : Type 0} → (S → Bool) → (S → Failures) → S → S → Type 0
MemoryFails broken failures old new = AllocationFails (broken old) (failures old) (failures new)

abbrev pub WasClosed : {S A : Type 0} → (S → Bool) → (S → A) → S → S → Type 0
WasClosed broken failures old new = WasBroken (broken old) (broken new) (failures old) (failures new)
