-- Whether a message uses a word twice, with the first pointer that does (profile).
use Rattle.std.specs.Prelude.{List, None, Option, Some, ℕ}
use Rattle.cap_spec.specs.SpecNames.{IsDisjoint, IsFirstOverlap}
use Rattle.cap_vet.specs.declared.exclusiveness.overlap_turn.Overlap.{Overlap}

-- this is the first pointer that overlaps
abbrev pub OverlapsFirst : List (List ℕ) → Overlap → Type 0
OverlapsFirst m o = IsFirstOverlap m o.segment o.word o.pointers

-- no word is used twice, or this is the first pointer that overlaps
abbrev pub EndsMarking : List (List ℕ) → Option Overlap → Type 0
EndsMarking m None = IsDisjoint m
EndsMarking m (Some first) = OverlapsFirst m first
