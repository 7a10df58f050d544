-- What a strict message is, and what a walk that looks for lax pointers knows (profile).
use Rattle.std.specs.Prelude.{List, None, Option, Some, ℕ}
use Rattle.cap_spec.specs.Lists.{IsOneOf}
use Rattle.cap_spec.specs.Strict.{IsFirstLax, IsLax}
use Rattle.cap_spec.specs.declared.Step.{Step}
use Rattle.cap_vet.specs.declared.nodes.vetted.Vetted.{Vetted}
use Rattle.cap_vet.specs.declared.strictness.strict.Strict.{Strict}
use Rattle.cap_vet.specs.declared.strictness.strict_turn.LaxPointer.{LaxPointer}
use Rattle.cap_frame.specs.declared.segments.Segments as segments

-- the accepted message
abbrev pub vetted_of : {M : Type 0} {g : segments.Ghosts M} → Strict M g → Vetted M g
vetted_of s = s.vetted

-- none of these paths reaches a lax pointer, or this is the first of all lax pointers
abbrev pub KnowsLax : List (List ℕ) → List (List Step) → Option LaxPointer → Type 0
KnowsLax m seen None = (path : List Step) → IsOneOf path seen → ¬ IsLax m path
KnowsLax m seen (Some first) = IsFirstLax m first.segment first.word first.what first.pointers
