-- What is known of the pointers on a path that common readers reject (profile).
use Rattle.std.specs.Prelude.{IsTrue, List, None, Option, Some, ℕ, ◌<◌, ◌≡◌, ◌≤◌}
use Rattle.cap_spec.specs.SpecNames.{IsOneOf, IsLax, IsLaxAt}
use Rattle.cap_spec.specs.declared.Lax.{Lax}
use Rattle.cap_spec.specs.declared.Step.{Step}
use Rattle.cap_spec.specs.declared.StrictRefusal.{StrictRefusal}
use Rattle.cap_spec.specs.declared.StrictRefusal.TheVariants.{ManySegments, Pointer, Refused}
use Rattle.cap_vet.specs.PathDemands.{IsFirstLaxOnPath}
use Rattle.cap_walk.specs.declared.demands.Demands.{Demands}
use Rattle.cap_vet.specs.declared.strictness.strict_turn.LaxPointer.{LaxPointer}

-- none of these pointers is one of them, or this is the first on the path
abbrev pub KnowsLaxOnPath : List (List ℕ) → List Step → List (List Step) → Option LaxPointer → Type 0
KnowsLaxOnPath m path ways None = (q : List Step) → IsOneOf q ways → ¬ IsLax m q
KnowsLaxOnPath m path ways (Some first) =
    IsFirstLaxOnPath m path first.segment first.word first.what first.pointers

-- the pointer at s:w, up to which there are n, is added to what is known
abbrev pub AddsPointer : List (List ℕ) → ℕ → ℕ → ℕ → Option LaxPointer → Option LaxPointer → Type 0
AddsPointer m s w n (Some first) after = after ≡ Some first
AddsPointer m s w n None None = (what : Lax) → ¬ IsLaxAt m s w what
AddsPointer m s w n None (Some first) =
    IsLaxAt m s w first.what × (first.segment ≡ s) × (first.word ≡ w) × (first.pointers ≡ n)

-- why a message of this many segments isn't strict, where this is the first such pointer on a path
abbrev pub IsFaultBy : Demands → ℕ → Option LaxPointer → StrictRefusal → Type 0
IsFaultBy demands count first (Refused refusal) = ⊥
IsFaultBy demands count first ManySegments = IsTrue demands.strict × (511 < count)
IsFaultBy demands count None (Pointer what s w n) = ⊥
IsFaultBy demands count (Some first) (Pointer what s w n) = IsTrue demands.strict × (count ≤ 511)
    × (what ≡ first.what) × (s ≡ first.segment) × (w ≡ first.word) × (n ≡ first.pointers)

-- there is no such fault
abbrev pub HasNoFaultBy : Demands → ℕ → Option LaxPointer → Type 0
HasNoFaultBy demands count first = IsTrue demands.strict → (count ≤ 511) × (first ≡ None)
