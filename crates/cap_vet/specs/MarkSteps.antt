-- What marking the words of one pointer does to the marks (profile).
use Rattle.std.specs.Prelude.{Bool, IsFalse, IsTrue, List, length, ℕ, ◌+◌, ◌<◌, ◌≡◌, ◌≤◌}
use Rattle.cap_spec.specs.SpecNames.{IsOneOf, segment_of, Occupies}
use Rattle.cap_vet.specs.Marks.{Conflicts, MarksAll}
use Rattle.cap_vet.specs.Taken.{HasCapacity, IsTaken, bit_in}
use Rattle.cap_vet.specs.declared.exclusiveness.marks.Marks.{Marks}

-- These bits were clear and are set now, and no other changes; or one of them was set before.
pub record SetsBits (old new : List ℕ) (from count : ℕ) (set : Bool) : Type 0 where
  pub same_length : length new ≡ length old
  pub taken : IsTrue set → (i : ℕ) → from ≤ i → i < from + count → bit_in new i ≡ 1
  pub free : IsTrue set → (i : ℕ) → from ≤ i → i < from + count → bit_in old i ≡ 0
  pub below : IsTrue set → (i : ℕ) → i < from → bit_in new i ≡ bit_in old i
  pub above : IsTrue set → (i : ℕ) → from + count ≤ i → bit_in new i ≡ bit_in old i
  pub conflict : IsFalse set → (i : ℕ) × (from ≤ i) × (i < from + count) × (bit_in old i ≡ 1)

-- there is a bit for each word of the message
abbrev pub HaveCapacity : List (List ℕ) → Marks → Type 0
HaveCapacity m marks = HasCapacity m marks.starts.now marks.bits.now

-- this word's bit is set
abbrev pub IsMarkedIn : List (List ℕ) → Marks → ℕ → ℕ → Type 0
IsMarkedIn m marks s w = IsTaken m marks.bits.now s w

-- These words exist, and there are bits for them.
pub record HasBits (m : List (List ℕ)) (marks : Marks) (s from count : ℕ) : Type 0 where
  pub fits : HaveCapacity m marks
  pub exists : s < length m
  pub inside : from + count ≤ length (segment_of m s)

-- These places are marked, or one of them was marked before.
pub record MarksPlaces (m : List (List ℕ)) (old new : Marks) (used : List (ℕ × ℕ)) (marked : Bool) : Type 0 where
  pub fits : HaveCapacity m new
  pub taken : IsTrue marked → MarksAll (IsMarkedIn m old) (IsMarkedIn m new) used
  pub conflict : IsFalse marked → (s w : ℕ) × IsOneOf (s, w) used × IsMarkedIn m old s w

-- What following the pointer at s:w uses is marked, or a part of it is used twice or was marked before.
pub record MarksUse (m : List (List ℕ)) (old new : Marks) (s w : ℕ) (marked : Bool) : Type 0 where
  pub fits : HaveCapacity m new
  pub taken : IsTrue marked → (used : List (ℕ × ℕ)) → Occupies m s w used → MarksAll (IsMarkedIn m old) (IsMarkedIn m new) used
  pub conflict : IsFalse marked → (used : List (ℕ × ℕ)) × Occupies m s w used × Conflicts (IsMarkedIn m old) used
