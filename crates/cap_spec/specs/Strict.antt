-- Messages without the forms that common readers reject, at least in part (profile).
use Rattle.std.specs.Prelude.{List, [], length, ℕ, ◌≡◌, ◌≤◌}
use Rattle.cap_spec.specs.Accepting.{IsWithin}
use Rattle.cap_spec.specs.Denoting.{Finds}
use Rattle.cap_spec.specs.Faults.{IsRefused}
use Rattle.cap_spec.specs.Following.{Leads, to_cap, to_null}
use Rattle.cap_spec.specs.Messages.{segment_of}
use Rattle.cap_spec.specs.Paths.{IsFirst, IsNumbered, Reaches}
use Rattle.cap_spec.specs.declared.Lax.{Lax}
use Rattle.cap_spec.specs.declared.Lax.TheVariants.{CapabilityPad, EmptySegment, NullPad}
use Rattle.cap_spec.specs.declared.Step.{Step}
use Rattle.cap_spec.specs.declared.StrictRefusal.{StrictRefusal}
use Rattle.cap_spec.specs.declared.StrictRefusal.TheVariants.{ManySegments, Pointer, Refused}

-- The pointer at s:w has this form: it leads over a one-word pad of zeros, to an object in a segment
-- without words, or over a one-word pad that is a capability (standard: Inter-Segment Pointers).
abbrev pub IsLaxAt : List (List ℕ) → ℕ → ℕ → Lax → Type 0
IsLaxAt m s w NullPad = Leads m s w 1 to_null
IsLaxAt m s w EmptySegment = (k t b q : ℕ) × Finds m s w k t b q × (segment_of m t ≡ [])
IsLaxAt m s w CapabilityPad = (i : ℕ) × Leads m s w 1 (to_cap i)

-- the path reaches a pointer of one of these forms
abbrev pub IsLax : List (List ℕ) → List Step → Type 0
IsLax m path = (level s w : ℕ) × (what : Lax) × Reaches m path level s w × IsLaxAt m s w what

-- The pointer word at s:w is the first in preorder of one of these forms, has this one, and has this
-- number in preorder.
pub record IsFirstLax (m : List (List ℕ)) (s w : ℕ) (what : Lax) (number : ℕ) : Type 0 where
  pub path : List Step
  pub numbered : IsNumbered m path s w number
  pub lax : IsLaxAt m s w what
  pub first : IsFirst (IsLax m) path

-- It is accepted, has at most 511 segments, and no path reaches a pointer of one of these forms.
pub record IsStrict (m : List (List ℕ)) (words depth : ℕ) : Type 0 where
  pub accepted : IsWithin m words depth
  pub few_segments : length m ≤ 511
  pub none : (path : List Step) → ¬ IsLax m path

-- Why a message isn't strict: first that it is refused, then that it has 512 segments, then the first
-- pointer of one of these forms.
abbrev pub IsStrictFault : List (List ℕ) → ℕ → ℕ → StrictRefusal → Type 0
IsStrictFault m words depth (Refused refusal) = IsRefused m words depth refusal
IsStrictFault m words depth ManySegments = IsWithin m words depth × (length m ≡ 512)
IsStrictFault m words depth (Pointer what s w pointers) =
    IsWithin m words depth × (length m ≤ 511) × IsFirstLax m s w what pointers
