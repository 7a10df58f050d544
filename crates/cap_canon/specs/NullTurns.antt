-- Null pointer words in a row, which a walk goes past at once (profile).
use Rattle.std.specs.Prelude.{List, Some, [], length, slice_get, suc, zero, ℕ, ◌++◌, ◌+◌, ◌<◌, ◌∷◌, ◌≡◌, ◌≤◌}
use Rattle.cap_spec.specs.SpecNames.{layout, Tree, null}
use Rattle.cap_canon.specs.AtRuns.{AtRun}
use Rattle.cap_canon.specs.Laying.{Due}
use Rattle.cap_canon.specs.StillToLay.{copy_work_left}
use Rattle.cap_canon.specs.declared.run.CopyRun.{CopyRun}

-- n null pointer words of the copy in a row, which are due
abbrev pub null_slots : ℕ → ℕ → List Due
null_slots a zero = []
null_slots a (suc n) = record { slot = a; tree = null } ∷ null_slots (a + 1) n

-- The layout of the whole tree has n zeros from a on, before the end.
pub record AreNullTurns (whole : Tree) (a n end : ℕ) : Type 0 where
  pub zeros : (k : ℕ) → k < n → slice_get (layout whole) (a + k) ≡ Some 0
  pub before : a + n ≤ end
  pub inside : end ≤ length (layout whole)

-- what is due after the first
abbrev pub after_first : List Due → List Due
after_first [] = []
after_first (x ∷ due) = due

-- the state after the turn at the first of what is due, seen from before this turn
abbrev pub with_first : (List (List ℕ) → Tree → ℕ → List Due → Type 0) → List (List ℕ) → Tree → ℕ → List Due → Type 0
with_first state m u end due = state m u end (after_first due)

-- A walk at the first word of run f is then at that of run g, and no more words are left.
abbrev pub GoesPast : List (List ℕ) → (List (List ℕ) → Tree → ℕ → List Due → Type 0)
    → (List (List ℕ) → Tree → ℕ → List Due → Type 0) → CopyRun → CopyRun → Type 0
GoesPast m before after f g = (depth end : ℕ) (runs : List CopyRun) → AtRun m before depth runs f end
    → AtRun m after depth runs g end × (copy_work_left (runs ++ g ∷ []) ≤ copy_work_left (runs ++ f ∷ []))
