-- The pointer words of a run, and what is left of it after the first (profile).
use Rattle.std.specs.Prelude.{Bool, List, None, Option, Some, [], flat_map, if◌then◌else◌, length, suc, zero, ℕ, ⊤, ◌*◌}
use Rattle.std.specs.Prelude.{◌++◌, ◌+◌, ◌<◌, ◌∷◌, ◌≡◌, ◌≤◌}
use Rattle.cap_spec.specs.Messages.{segment_of}
use Rattle.cap_walk.specs.Trails.{Ahead}
use Rattle.cap_walk.specs.declared.pointer_run.PointerRun.{PointerRun}

-- a pointer word: its segment, its word, and the level of what it leads to
abbrev pub PointerWord : Type 0
PointerWord = ℕ × ℕ × ℕ

-- the place of a word ahead
abbrev pub pointer_word_of : Ahead → PointerWord
pointer_word_of a = (a.segment, a.word, a.level)

-- n pointer words in a row
abbrev pub row_places : ℕ → ℕ → ℕ → ℕ → List PointerWord
row_places level t b zero = []
row_places level t b (suc n) = (t, b, level) ∷ row_places level t (b + 1) n

-- those of n elements of ds data words and ps pointers
abbrev pub element_places : ℕ → ℕ → ℕ → ℕ → ℕ → ℕ → List PointerWord
element_places level t b ds ps zero = []
element_places level t b ds ps (suc n) = row_places level t (b + ds) ps ++ element_places level t (b + ds + ps) ds ps n

-- the pointer words of a run
abbrev pub spots : PointerRun → List PointerWord
spots f = row_places f.level f.segment f.at f.left ++ element_places f.level f.segment (f.at + f.left) f.data_words f.pointers f.more

abbrev pub option_spots : Option PointerRun → List PointerWord
option_spots None = []
option_spots (Some f) = spots f

-- the pointer words of runs, the topmost first
abbrev pub all_spots : List PointerRun → List PointerWord
all_spots runs = flat_map spots runs

-- the run, where something is left of it
abbrev pub kept_run : Bool → PointerRun → Option PointerRun
kept_run b f = if b then Some f else None

-- A run isn't empty, and its words lie inside its segment.
pub record RunIn (m : List (List ℕ)) (f : PointerRun) : Type 0 where
  pub exists : f.segment < length m
  pub some : 0 < f.left
  pub each : 0 < f.more → 0 < f.pointers
  pub inside : f.at + f.left + f.more * (f.data_words + f.pointers) ≤ length (segment_of m f.segment)

abbrev pub OptionIn : List (List ℕ) → Option PointerRun → Type 0
OptionIn m None = ⊤
OptionIn m (Some f) = RunIn m f

abbrev pub LevelIs : ℕ → Option PointerRun → Type 0
LevelIs level None = ⊤
LevelIs level (Some f) = f.level ≡ level

-- what is left of a run after its first pointer word
pub record IsRest (f : PointerRun) (rest : Option PointerRun) : Type 0 where
  pub words : spots f ≡ (f.segment, f.at, f.level) ∷ option_spots rest
  pub inside : (m : List (List ℕ)) → RunIn m f → OptionIn m rest
  pub level : LevelIs f.level rest

-- the run of the root word alone
abbrev pub root_run : PointerRun
root_run = record { segment = 0; at = 0; left = 1; more = 0; data_words = 0; pointers = 0; level = 1 }
