-- Why a pointer of an accepted message isn't as a canonical copy has it (standard: Canonicalization; the names
-- of the reasons are the profile's).
use Rattle.std.specs.Prelude.{List, None, Option, Some, ℕ, ◌%◌, ◌*◌, ◌+◌, ◌-◌, ◌/◌, ◌<◌, ◌^◌, ◌≡◌, ◌≢◌}
use Rattle.cap_spec.specs.Denoting.{FindsKind}
use Rattle.cap_spec.specs.Following.{Leads, to_cap, to_null}
use Rattle.cap_spec.specs.Messages.{HasWord}
use Rattle.cap_spec.specs.Pointers.{IsFar, element_bits, list_size, list_words}
use Rattle.cap_spec.specs.declared.Kind.{Kind}
use Rattle.cap_spec.specs.declared.Kind.TheVariants.{Pointers, Scalars, Struct, Structs}
use Rattle.cap_difference.specs.declared.reason.DifferenceReason.{DifferenceReason}
use Rattle.cap_difference.specs.declared.reason.DifferenceReason.TheVariants.{Bits, Capability, DataZero, EmptyList}
use Rattle.cap_difference.specs.declared.reason.DifferenceReason.TheVariants.{EmptyStruct, Far, Place, PointerNull}
use Rattle.cap_difference.specs.declared.reason.DifferenceReason.TheVariants.{Segments, Surplus, Trailing}

-- the order in which the reasons are tried
abbrev pub difference_rank : DifferenceReason → ℕ
difference_rank Segments = 0
difference_rank Far = 1
difference_rank Capability = 2
difference_rank EmptyStruct = 3
difference_rank Place = 4
difference_rank Bits = 5
difference_rank EmptyList = 6
difference_rank Surplus = 7
difference_rank DataZero = 8
difference_rank PointerNull = 9
difference_rank Trailing = 10

-- P holds of this reason, and of none before it.
pub record IsFirstSuchReason (P : DifferenceReason → Type 0) (reason : DifferenceReason) : Type 0 where
  pub holds : P reason
  pub first : (other : DifferenceReason) → difference_rank other < difference_rank reason → ¬ P other

-- this is the first reason of which P holds, or there is none
abbrev pub Decides : (DifferenceReason → Type 0) → Option DifferenceReason → Type 0
Decides P None = (reason : DifferenceReason) → ¬ P reason
Decides P (Some reason) = IsFirstSuchReason P reason

-- the word at s:w denotes null, over a landing pad or without one
abbrev pub IsNullAt : List (List ℕ) → ℕ → ℕ → Type 0
IsNullAt m s w = (k : ℕ) × Leads m s w k to_null

-- how many bits of its last word the n values of code c take, and 0 if they fill it
abbrev pub last_bits : ℕ → ℕ → ℕ
last_bits c n = (element_bits c * n) % 64

-- The list of n values of code c from t:b on has set bits in its last word, after its last value.
pub record HasBitsAfter (m : List (List ℕ)) (t b c n : ℕ) : Type 0 where
  pub last : ℕ
  pub some : last_bits c n ≢ 0
  pub has : HasWord m t (b + (list_words c n - 1)) last
  pub set : last / 2 ^ last_bits c n ≢ 0

-- Of n structs of ds data words and ps pointers from t:b on, each has a last data word, which is zero.
pub record EndInZeros (m : List (List ℕ)) (t b n ds ps : ℕ) : Type 0 where
  pub some : 0 < ds
  pub zeros : (k : ℕ) → k < n → HasWord m t (b + k * (ds + ps) + (ds - 1)) 0

-- Of n such structs each has a last pointer, which denotes null.
pub record EndInNulls (m : List (List ℕ)) (t b n ds ps : ℕ) : Type 0 where
  pub some : 0 < ps
  pub nulls : (k : ℕ) → k < n → IsNullAt m t (b + k * (ds + ps) + (ds + ps - 1))

-- A struct of ds data words and ps pointers, at t:b, isn't as a copy has it from word `end` on; the word p points to it. The
-- copy's pointer to a struct without words has the offset -1.
pub data StructDiffers (m : List (List ℕ)) (end p t b ds ps : ℕ) (reason : DifferenceReason) : Type 0 where
  empty_struct : reason ≡ EmptyStruct → ds + ps ≡ 0 → p ≢ 2 ^ 32 - 4 → StructDiffers m end p t b ds ps reason
  struct_place : reason ≡ Place → ds + ps ≢ 0 → b ≢ end → StructDiffers m end p t b ds ps reason
  struct_zero : reason ≡ DataZero → EndInZeros m t b 1 ds ps → StructDiffers m end p t b ds ps reason
  struct_null : reason ≡ PointerNull → EndInNulls m t b 1 ds ps → StructDiffers m end p t b ds ps reason

-- a list of n values of code c
pub data ScalarsDiffers (m : List (List ℕ)) (end t b c n : ℕ) (reason : DifferenceReason) : Type 0 where
  values_place : reason ≡ Place → b ≢ end → ScalarsDiffers m end t b c n reason
  bits_after : reason ≡ Bits → HasBitsAfter m t b c n → ScalarsDiffers m end t b c n reason

-- a list of pointers
pub data PointersDiffers (end b : ℕ) (reason : DifferenceReason) : Type 0 where
  pointers_place : reason ≡ Place → b ≢ end → PointersDiffers end b reason

-- a list of n structs of ds data words and ps pointers, of `size` words after its tag
pub data StructsDiffers (m : List (List ℕ)) (end t b n ds ps size : ℕ) (reason : DifferenceReason) : Type 0 where
  structs_place : reason ≡ Place → b ≢ end → StructsDiffers m end t b n ds ps size reason
  empty_list : reason ≡ EmptyList → n ≡ 0 → ds + ps ≢ 0 → StructsDiffers m end t b n ds ps size reason
  surplus : reason ≡ Surplus → n * (ds + ps) ≢ size → StructsDiffers m end t b n ds ps size reason
  structs_zero : reason ≡ DataZero → n ≢ 0 → EndInZeros m t (b + 1) n ds ps → StructsDiffers m end t b n ds ps size reason
  structs_null : reason ≡ PointerNull → n ≢ 0 → EndInNulls m t (b + 1) n ds ps → StructsDiffers m end t b n ds ps size reason

-- An object of a kind, at t:b, isn't as a copy has it from word `end` on. The word p points to it, and the word q gives its shape.
abbrev pub ObjectDiffers : List (List ℕ) → ℕ → ℕ → ℕ → ℕ → ℕ → Kind → DifferenceReason → Type 0
ObjectDiffers m end p t b q (Struct ds ps) reason = StructDiffers m end p t b ds ps reason
ObjectDiffers m end p t b q (Scalars c n) reason = ScalarsDiffers m end t b c n reason
ObjectDiffers m end p t b q (Pointers n) reason = PointersDiffers end b reason
ObjectDiffers m end p t b q (Structs n ds ps) reason = StructsDiffers m end t b n ds ps (list_size q) reason
ObjectDiffers m end p t b q _ reason = ⊥

-- The pointer word at s:w isn't as a copy has it, with its object from word `end` on.
pub data PointerDiffers (m : List (List ℕ)) (s w end : ℕ) (reason : DifferenceReason) : Type 0 where
  is_far : reason ≡ Far → (p : ℕ) → HasWord m s w p → IsFar p → PointerDiffers m s w end reason
  is_capability : reason ≡ Capability → (k i : ℕ) → Leads m s w k (to_cap i) → PointerDiffers m s w end reason
  in_object : (p k t b q tag : ℕ) (what : Kind) → HasWord m s w p → FindsKind m s w what k t b q tag
      → ObjectDiffers m end p t b q what reason → PointerDiffers m s w end reason
