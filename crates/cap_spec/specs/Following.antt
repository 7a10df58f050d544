-- What a pointer word leads to (standard: Inter-Segment Pointers), and the first reason why it
-- can't be followed (profile).
use Rattle.std.specs.Prelude.{List, if◌then◌else◌, length, pos, ℕ, ℤ, ◌*◌, ◌+ℤ◌, ◌+◌, ◌<ℤ◌, ◌<◌, ◌==◌, ◌≡◌, ◌≢◌, ◌≤◌}
use Rattle.std.specs.Prelude.{◌⊎◌}
use Rattle.cap_spec.specs.Messages.{HasWord, segment_of}
use Rattle.cap_spec.specs.Pointers.{IsCap, IsFar, IsReserved, cap_index, code, data_size, extent, far_segment, kind}
use Rattle.cap_spec.specs.Pointers.{list_size, middle, pad, pointer_size, two}
use Rattle.cap_spec.specs.Words.{signed_offset_of}
use Rattle.cap_spec.specs.declared.Reason.{Reason}
use Rattle.cap_spec.specs.declared.Reason.TheVariants.{CompositeOverrun, CompositeTag, DepthLimit, NoRoot, OutOfSegment}
use Rattle.cap_spec.specs.declared.Reason.TheVariants.{PadIsFar, PadNotFar, PadOutside, Reserved, SegmentMissing}
use Rattle.cap_spec.specs.declared.Reason.TheVariants.{TagKind, TagOffset, WordLimit}

-- null, a capability, or an object: its segment, its start, and the word that gives its shape
pub data Lead : Type 0 where
  to_null : Lead
  to_cap : ℕ → Lead
  to_object : ℕ → ℤ → ℕ → Lead

-- what the word q, at t:w, says by itself
abbrev pub Says : ℕ → ℕ → ℕ → Lead → Type 0
Says t w q to_null = q ≡ 0
Says t w q (to_cap index) = IsCap q × (index ≡ cap_index q)
Says t w q (to_object segment start shape) =
    (kind q < 2) × (q ≢ 0) × (segment ≡ t) × (start ≡ pos (w + 1) +ℤ signed_offset_of q) × (shape ≡ q)

-- a far pointer with one landing pad word, and with two
abbrev pub IsOnePad : ℕ → Type 0
IsOnePad p = IsFar p × (two p ≡ 0)

abbrev pub IsTwoPad : ℕ → Type 0
IsTwoPad p = IsFar p × (two p ≡ 1)

-- a tag of a two-word pad
abbrev pub IsTag : ℕ → Type 0
IsTag q = (kind q < 2) × (middle q ≡ 0)

-- With k pad words, the pointer word at s:w leads there.
pub data Leads (m : List (List ℕ)) (s w k : ℕ) (r : Lead) : Type 0 where
  near : (p : ℕ) → HasWord m s w p → kind p ≢ 2 → Says s w p r → k ≡ 0 → Leads m s w k r
  one_pad : (p q : ℕ) → HasWord m s w p → IsOnePad p → HasWord m (far_segment p) (pad p) q → kind q ≢ 2 → Says (far_segment p) (pad p) q r → k ≡ 1
      → Leads m s w k r
  two_pads : (p f q : ℕ) → HasWord m s w p → IsTwoPad p → HasWord m (far_segment p) (pad p) f → HasWord m (far_segment p) (pad p + 1) q → IsOnePad f → IsTag q
      → r ≡ to_object (far_segment f) (pos (pad f)) q → k ≡ 2 → Leads m s w k r

-- a composite list: its tag
abbrev pub IsComposite : ℕ → Type 0
IsComposite q = (kind q ≡ 1) × (code q ≡ 7)

-- if q is the word of a composite list at t:b, this is its tag
abbrev pub HasTag : List (List ℕ) → ℕ → ℕ → ℕ → ℕ → Type 0
HasTag m t b q tag = IsComposite q → HasWord m t b tag

-- the elements that a tag gives fit into the size
abbrev pub TagFits : ℕ → ℕ → Type 0
TagFits tag size = (kind tag ≡ 0) × (middle tag * (data_size tag + pointer_size tag) ≤ size)

-- the object lies inside its segment, from start b on, and a composite list's elements inside the list
pub record IsInside (m : List (List ℕ)) (t b q : ℕ) : Type 0 where
  pub exists : t < length m
  pub inside : b + extent q ≤ length (segment_of m t)
  pub composite : IsComposite q → (tag : ℕ) × HasWord m t b tag × TagFits tag (list_size q)

-- one for each element without bits or words
abbrev pub extra : ℕ → ℕ → ℕ
extra q tag =
    if kind q == 0 then 0 else
    (if code q == 0 then list_size q else
    (if code q == 7 then (if (data_size tag + pointer_size tag) == 0 then middle tag else 0) else 0))

-- The conditions of the reasons, each of a pointer word p of the message.
-- the pad of p, of n words, isn't all inside its segment
abbrev pub PadMissing : List (List ℕ) → ℕ → ℕ → Type 0
PadMissing m p n = (far_segment p < length m) × (length (segment_of m (far_segment p)) < pad p + n)

-- the target is not inside its segment
abbrev pub Outside : List (List ℕ) → ℕ → ℤ → ℕ → Type 0
Outside m t b q = (t < length m) × ((b <ℤ pos 0) ⊎ (pos (length (segment_of m t)) <ℤ (b +ℤ pos (extent q))))

abbrev pub Condition : List (List ℕ) → ℕ → ℕ → Reason → Type 0
Condition m s w NoRoot = ⊥
Condition m s w Reserved = (p : ℕ) × HasWord m s w p × (IsReserved p ⊎ (IsOnePad p × (q : ℕ) × HasWord m (far_segment p) (pad p) q × IsReserved q))
Condition m s w SegmentMissing = (p : ℕ) × HasWord m s w p × IsFar p
    × ((length m ≤ far_segment p) ⊎ ((two p ≡ 1) × (f q : ℕ) × HasWord m (far_segment p) (pad p) f × HasWord m (far_segment p) (pad p + 1) q × IsOnePad f
    × (length m ≤ far_segment f)))
Condition m s w PadOutside = (p : ℕ) × HasWord m s w p × IsFar p × PadMissing m p (two p + 1)
Condition m s w PadIsFar = (p q : ℕ) × HasWord m s w p × IsOnePad p × HasWord m (far_segment p) (pad p) q × IsFar q
Condition m s w PadNotFar = (p f q : ℕ) × HasWord m s w p × IsTwoPad p × HasWord m (far_segment p) (pad p) f × HasWord m (far_segment p) (pad p + 1) q
    × ¬ IsOnePad f
Condition m s w TagKind = (p f q : ℕ) × HasWord m s w p × IsTwoPad p × HasWord m (far_segment p) (pad p) f × HasWord m (far_segment p) (pad p + 1) q
    × (2 ≤ kind q)
Condition m s w TagOffset = (p f q : ℕ) × HasWord m s w p × IsTwoPad p × HasWord m (far_segment p) (pad p) f × HasWord m (far_segment p) (pad p + 1) q
    × (middle q ≢ 0)
Condition m s w OutOfSegment = (k : ℕ) × (t : ℕ) × (b : ℤ) × (q : ℕ) × Leads m s w k (to_object t b q) × Outside m t b q
Condition m s w CompositeTag = (k t b q tag : ℕ) × Leads m s w k (to_object t (pos b) q) × IsComposite q × HasWord m t b tag × (kind tag ≢ 0)
Condition m s w CompositeOverrun = (k t b q tag : ℕ) × Leads m s w k (to_object t (pos b) q) × IsComposite q × HasWord m t b tag
    × (list_size q < middle tag * (data_size tag + pointer_size tag))
Condition m s w DepthLimit = ⊥
Condition m s w WordLimit = ⊥

-- the order in which the reasons are looked at
abbrev pub rank : Reason → ℕ
rank NoRoot = 1
rank Reserved = 2
rank SegmentMissing = 3
rank PadOutside = 4
rank PadIsFar = 5
rank PadNotFar = 6
rank TagKind = 7
rank TagOffset = 8
rank OutOfSegment = 9
rank CompositeTag = 10
rank CompositeOverrun = 11
rank DepthLimit = 12
rank WordLimit = 13

-- v is the first reason whose condition holds at s:w
pub record Wrong (m : List (List ℕ)) (s w : ℕ) (v : Reason) : Type 0 where
  pub holds : Condition m s w v
  pub first : (u : Reason) → rank u < rank v → ¬ Condition m s w u
