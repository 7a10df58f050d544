-- A walk over an accepted message, between two turns (profile).
use Rattle.std.specs.Prelude.{List, Option, option_to_list, ℕ, ◌++◌, ◌∷◌}
use Rattle.cap_spec.specs.SpecNames.{layout, trim, Denotes, Tree}
use Rattle.cap_canon.specs.CopyRuns.{AreShort, IsFull, IsCopyRest, first_place, places_of}
use Rattle.cap_canon.specs.Laying.{Due, Laid}
use Rattle.cap_canon.specs.StillToLay.{IsNextToCopy}
use Rattle.cap_canon.specs.declared.run.CopyRun.{CopyRun}
use Rattle.cap_canon.specs.declared.run.PointerPlace.{PointerPlace}

-- A walk at the word at p, with a state that fits what is due.
pub record AtTurn (m : List (List ℕ)) (state : List (List ℕ) → Tree → ℕ → List Due → Type 0) (depth : ℕ) (runs : List CopyRun)
    (p : PointerPlace) (end : ℕ) : Type 0 where
  pub root : Tree
  pub charge : ℕ
  pub denotes : Denotes m 0 0 root charge depth
  pub tree : Tree
  pub due : List Due
  pub next : IsNextToCopy m depth p runs end tree due
  pub laid : Laid (layout (trim root)) end (record { slot = p.slot; tree = tree } ∷ due)
  pub so_far : state m (trim root) end (record { slot = p.slot; tree = tree } ∷ due)

-- A walk at the first word of a run, with other runs on the stack.
pub record AtRun (m : List (List ℕ)) (state : List (List ℕ) → Tree → ℕ → List Due → Type 0) (depth : ℕ) (runs : List CopyRun)
    (run : CopyRun) (end : ℕ) : Type 0 where
  pub full : IsFull run
  pub short : AreShort (places_of run)
  pub turn : (rest : Option CopyRun) → IsCopyRest run rest → AtTurn m state depth (runs ++ option_to_list rest) (first_place run) end
