-- What a walk over an accepted message still has to lay (profile).
use Rattle.std.specs.Prelude.{Bool, List, Option, [], if◌then◌else◌, length, option_to_list, reverse, ℕ, ⊤, ◌++◌, ◌+◌}
use Rattle.std.specs.Prelude.{◌<◌, ◌∷◌, ◌≡◌, ◌≤◌}
use Rattle.cap_spec.specs.SpecNames.{trim, Denotes, most_words, IsMessage, Tree}
use Rattle.cap_canon.specs.CopyRuns.{IsFull, IsCopyRest, all_places, places_of}
use Rattle.cap_canon.specs.Laying.{AreBefore, Due, size_due}
use Rattle.cap_canon.specs.Objects.{IsObject}
use Rattle.cap_canon.specs.declared.objects.Object.{Object}
use Rattle.cap_canon.specs.declared.run.CopyRun.{CopyRun}
use Rattle.cap_canon.specs.declared.run.PointerPlace.{PointerPlace}

-- the words of the longest copy: the root word, and one for each word of the greatest charge
abbrev pub longest_copy : ℕ
longest_copy = most_words + 1

-- What is left of the tree that the word denotes, which has n levels fewer than the depth, or fewer still.
abbrev pub IsOwed : List (List ℕ) → ℕ → ℕ → ℕ → ℕ → Tree → Type 0
IsOwed m depth n s w u = (t : Tree) × (c d : ℕ) × Denotes m s w t c d × (u ≡ trim t) × (d + n ≤ depth)

-- the words at these places, one after the other
abbrev pub AreOwed : List (List ℕ) → ℕ → ℕ → List PointerPlace → List Due → Type 0
AreOwed m depth n [] [] = ⊤
AreOwed m depth n [] (x ∷ due) = ⊥
AreOwed m depth n (p ∷ places) [] = ⊥
AreOwed m depth n (p ∷ places) (x ∷ due) = (p.slot ≡ x.slot) × IsOwed m depth n p.segment p.word x.tree × AreOwed m depth n places due

-- a run, which isn't empty, of the words that are due
pub record RunOwes (m : List (List ℕ)) (depth n : ℕ) (f : CopyRun) (due : List Due) : Type 0 where
  pub full : IsFull f
  pub owed : AreOwed m depth n (places_of f) due

-- runs, the topmost first, of the words that are due
abbrev pub Stacked : List (List ℕ) → ℕ → List CopyRun → List Due → Type 0
Stacked m depth [] due = due ≡ []
Stacked m depth (f ∷ runs) due = (own rest : List Due) × (due ≡ own ++ rest) × RunOwes m depth (length runs + 1) f own × Stacked m depth runs rest

-- The runs of a walk that has laid the objects' own words up to end.
pub record IsCopying (m : List (List ℕ)) (depth : ℕ) (runs : List CopyRun) (end : ℕ) (due : List Due) : Type 0 where
  pub message : IsMessage m
  pub stacked : Stacked m depth (reverse runs) due
  pub before : AreBefore end due
  pub small : end + size_due due ≤ longest_copy

-- The next word to look at is at p; then come those of the runs.
pub record IsNextToCopy (m : List (List ℕ)) (depth : ℕ) (p : PointerPlace) (runs : List CopyRun) (end : ℕ) (tree : Tree) (due : List Due) : Type 0 where
  pub owed : IsOwed m depth (length runs) p.segment p.word tree
  pub inside : p.slot < end
  pub message : IsMessage m
  pub stacked : Stacked m depth (reverse runs) due
  pub before : AreBefore end due
  pub small : end + size_due (record { slot = p.slot; tree = tree } ∷ due) ≤ longest_copy

-- The next word leads to this object, of at most d levels.
pub record NextLeadsTo (m : List (List ℕ)) (depth : ℕ) (p : PointerPlace) (runs : List CopyRun) (end : ℕ) (tree : Tree) (due : List Due)
    (object : Object) : Type 0 where
  pub next : IsNextToCopy m depth p runs end tree due
  pub d : ℕ
  pub is : IsObject m d p.segment p.word tree object
  pub levels : d + length runs ≤ depth

-- the runs that are left: those of the stack and the current one, or none
abbrev pub copy_runs_left : Bool → List CopyRun → CopyRun → List CopyRun
copy_runs_left more runs run = if more then runs ++ run ∷ [] else []

-- After the first word of a run the run below it is left, and then what comes after that word.
pub record ContinuesCopy (more : Bool) (before : List CopyRun) (old : CopyRun) (below : Option CopyRun) (after : List CopyRun) (new : CopyRun) : Type 0 where
  pub rest : Option CopyRun
  pub is_rest : IsCopyRest old rest
  pub runs : (before ++ option_to_list rest) ++ option_to_list below ≡ copy_runs_left more after new

-- how many pointer words the runs still have
abbrev pub copy_work_left : List CopyRun → ℕ
copy_work_left runs = length (all_places runs)
