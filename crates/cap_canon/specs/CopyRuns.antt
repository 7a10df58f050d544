-- The pointer words of a run, each with the word of the copy that it becomes (profile).
use Rattle.std.specs.List.{AllByRecursion}
use Rattle.std.specs.Prelude.{Bool, List, None, Option, Some, [], flat_map, if◌then◌else◌, suc, zero, ℕ, ⊤, ◌++◌, ◌+◌}
use Rattle.std.specs.Prelude.{◌<◌, ◌^◌, ◌∷◌, ◌≡◌}
use Rattle.cap_canon.specs.declared.run.CopyRun.{CopyRun}
use Rattle.cap_canon.specs.declared.run.PointerPlace.{PointerPlace}

-- a pointer word at t:b that becomes word a of the copy
abbrev pub place : ℕ → ℕ → ℕ → PointerPlace
place t b a = record { segment = t; word = b; slot = a }

-- n pointer words in a row
abbrev pub copy_row_places : ℕ → ℕ → ℕ → ℕ → List PointerPlace
copy_row_places t b a zero = []
copy_row_places t b a (suc n) = place t b a ∷ copy_row_places t (b + 1) (a + 1) n

-- p of each of n further elements
abbrev pub further_places : ℕ → ℕ → ℕ → ℕ → ℕ → ℕ → ℕ → List PointerPlace
further_places t b a skip gap p zero = []
further_places t b a skip gap p (suc n) = copy_row_places t (b + skip) (a + gap) p ++ further_places t (b + skip + p) (a + gap + p) skip gap p n

abbrev pub places_of : CopyRun → List PointerPlace
places_of f = copy_row_places f.segment f.at f.slot f.left ++ further_places f.segment (f.at + f.left) (f.slot + f.left) f.skip f.gap f.pointers f.more

abbrev pub option_places : Option CopyRun → List PointerPlace
option_places None = []
option_places (Some f) = places_of f

abbrev pub all_places : List CopyRun → List PointerPlace
all_places runs = flat_map places_of runs

-- the first pointer word of a run
abbrev pub first_place : CopyRun → PointerPlace
first_place f = place f.segment f.at f.slot

-- the run of the root word alone
abbrev pub copy_root_run : CopyRun
copy_root_run = record { segment = 0; at = 0; slot = 0; left = 1; more = 0; skip = 0; gap = 0; pointers = 0 }

-- a run, if something is left of it
abbrev pub run_kept : Bool → CopyRun → Option CopyRun
run_kept b f = if b then Some f else None

-- there is a pointer word left in the run, and in each further element
pub record IsFull (f : CopyRun) : Type 0 where
  pub some : 0 < f.left
  pub each : 0 < f.more → 0 < f.pointers

abbrev pub OptionFull : Option CopyRun → Type 0
OptionFull None = ⊤
OptionFull (Some f) = IsFull f

-- its words are numbers of 32 bits
abbrev pub IsShort : PointerPlace → Type 0
IsShort p = (p.word < 2 ^ 32) × (p.slot < 2 ^ 32)

abbrev pub AreShort : List PointerPlace → Type 0
AreShort places = AllByRecursion IsShort places

-- what is left of a run after its first pointer word
pub record IsCopyRest (f : CopyRun) (rest : Option CopyRun) : Type 0 where
  pub words : places_of f ≡ first_place f ∷ option_places rest
  pub full : OptionFull rest
