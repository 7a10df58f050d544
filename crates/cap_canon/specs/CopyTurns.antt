-- A turn of the walk, at one pointer word (profile).
use Rattle.std.specs.Prelude.{List, length, ℕ, ◌++◌, ◌+◌, ◌∷◌, ◌≤◌}
use Rattle.cap_spec.specs.SpecNames.{layout, Tree}
use Rattle.cap_canon.specs.Laying.{Due, IsPointed, OwnAt, below, own_size}
use Rattle.cap_canon.specs.StillToLay.{NextLeadsTo}
use Rattle.cap_canon.specs.declared.objects.Object.{Object}
use Rattle.cap_canon.specs.declared.run.CopyRun.{CopyRun}
use Rattle.cap_canon.specs.declared.run.PointerPlace.{PointerPlace}

-- The word at p leads to this object. The layout of the whole tree has the object's own words from
-- end on.
pub record IsTurn (m : List (List ℕ)) (whole : Tree) (object : Object) (p : PointerPlace) (end : ℕ) (tree : Tree)
    (due : List Due) : Type 0 where
  pub depth : ℕ
  pub runs : List CopyRun
  pub meets : NextLeadsTo m depth p runs end tree due object
  pub pointed : IsPointed (layout whole) end p.slot tree
  pub own : OwnAt (layout whole) end tree
  pub inside : end + own_size tree ≤ length (layout whole)

-- A turn at this object makes the state after it from the one before: its own words are laid, and its pointers are due.
abbrev pub TurnKeeps : List (List ℕ) → Object → PointerPlace → ℕ → (Tree → ℕ → List Due → Type 0)
    → (Tree → ℕ → List Due → Type 0) → Type 0
TurnKeeps m object p end before after = (whole tree : Tree) (due : List Due)
    → IsTurn m whole object p end tree due → before whole end (record { slot = p.slot; tree = tree } ∷ due)
    → after whole (end + own_size tree) (below end tree ++ due)
