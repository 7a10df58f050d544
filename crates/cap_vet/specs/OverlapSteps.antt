-- What a walk that marks words knows of the pointers that it has looked at (profile).
use Rattle.std.specs.Prelude.{List, None, Option, Some, ℕ}
use Rattle.cap_spec.specs.SpecNames.{IsOneOf, Overlaps}
use Rattle.cap_spec.specs.declared.Step.{Step}
use Rattle.cap_vet.specs.Overlapping.{OverlapsFirst}
use Rattle.cap_vet.specs.Stricts.{KnowsLax}
use Rattle.cap_vet.specs.Taken.{HasMarked}
use Rattle.cap_vet.specs.declared.exclusiveness.exclusive_vetting.Firsts.{Firsts}
use Rattle.cap_vet.specs.declared.exclusiveness.marks.Marks.{Marks}
use Rattle.cap_vet.specs.declared.exclusiveness.overlap_turn.Overlap.{Overlap}

-- the words that these paths use are marked, and none is used twice; or this is the first pointer that overlaps
abbrev pub KnowsMarks : List (List ℕ) → List (List Step) → Marks → Option Overlap → Type 0
KnowsMarks m seen marks None = HasMarked m seen marks.starts.now marks.bits.now
KnowsMarks m seen marks (Some first) = OverlapsFirst m first

-- none of these paths overlaps, or this is the first pointer that does
abbrev pub KnowsOverlap : List (List ℕ) → List (List Step) → Option Overlap → Type 0
KnowsOverlap m seen None = (path : List Step) → IsOneOf path seen → ¬ Overlaps m path
KnowsOverlap m seen (Some first) = OverlapsFirst m first

-- the same of overlaps, and of pointers that common readers reject
abbrev pub KnowsFirsts : List (List ℕ) → Firsts → List (List Step) → Type 0
KnowsFirsts m firsts seen = KnowsOverlap m seen firsts.overlap × KnowsLax m seen firsts.lax
