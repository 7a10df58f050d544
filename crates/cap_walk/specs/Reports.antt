-- What an accepted message's report says of its tree (profile).
use Rattle.std.specs.Prelude.{List, None, Option, Some, ℕ, ◌+◌, ◌≡◌, ◌≤◌}
use Rattle.cap_spec.specs.Accepting.{DenotesWithin}
use Rattle.cap_spec.specs.Paths.{ReachesCap}
use Rattle.cap_spec.specs.SpecNames.{most_depth, most_words, IsFirstCap, Tree, cap_count, pointer_count}
use Rattle.cap_spec.specs.declared.Step.{Step}
use Rattle.cap_walk.specs.declared.report.Report.{Report}

-- the place of the first capability in preorder, or that no path leads to one
abbrev pub IsFirstCapOf : List (List ℕ) → Option (ℕ × ℕ) → Type 0
IsFirstCapOf m None = (path : List Step) → ¬ ReachesCap m path
IsFirstCapOf m (Some place) = IsFirstCap m place.0 place.1

-- The root denotes this tree within the limits, and these are its numbers.
pub record IsReport (m : List (List ℕ)) (words depth : ℕ) (r : Report) (t : Tree) : Type 0 where
  pub within : DenotesWithin m words depth t r.charge r.depth
  pub pointers : r.pointers ≡ pointer_count t
  pub caps : r.caps ≡ cap_count t
  pub first_cap : IsFirstCapOf m r.first_cap
  pub few : r.pointers ≤ words + 1

-- the root denotes a tree within the limits, of the reported numbers
abbrev pub IsAccepted : List (List ℕ) → ℕ → ℕ → Report → Type 0
IsAccepted m words depth r = (t : Tree) × IsReport m words depth r t

-- the same within the greatest limits that a walk may have
abbrev pub IsVetted : List (List ℕ) → Report → Type 0
IsVetted m r = IsAccepted m most_words most_depth r
