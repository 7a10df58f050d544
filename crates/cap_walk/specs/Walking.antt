-- What holds of a walk between two turns (profile).
use Rattle.std.specs.List.{AllByRecursion}
use Rattle.std.specs.Prelude.{List, None, Option, Some, [], length, map, reverse, suc, ℕ, ⊤, ◌+◌, ◌-◌, ◌<◌, ◌∷◌, ◌≡◌}
use Rattle.std.specs.Prelude.{◌≤◌}
use Rattle.cap_spec.specs.SpecNames.{AreShallow, Leads, to_cap, IsOneOf, HasWord, segment_of, Before, Costs, Reaches}
use Rattle.cap_spec.specs.SpecNames.{CostOf}
use Rattle.cap_spec.specs.declared.Step.{Step}
use Rattle.cap_walk.specs.Owing.{AreInLevels, IsCount}
use Rattle.cap_walk.specs.PointerRuns.{RunIn, all_spots, pointer_word_of}
use Rattle.cap_walk.specs.Trails.{Ahead, IsTrail}
use Rattle.cap_walk.specs.declared.report.Report.{Report}
use Rattle.cap_walk.specs.declared.pointer_run.PointerRun.{PointerRun}

-- each run's level is higher than there are runs below it
abbrev pub AreStacked : ℕ → List PointerRun → Type 0
AreStacked depth [] = ⊤
AreStacked depth (f ∷ runs) = (length runs + 1 ≤ f.level) × (f.level ≤ depth + 1) × AreStacked depth runs

-- the path leads to a capability from this word
abbrev pub LeadsToCap : List (List ℕ) → List Step → ℕ → ℕ → Type 0
LeadsToCap m p s w = (level k i : ℕ) × Reaches m p level s w × Leads m s w k (to_cap i)

-- the first of these paths, in preorder, that leads to a capability: the place that it reaches
abbrev pub IsFirstOf : List (List ℕ) → List (List Step) → Option (ℕ × ℕ) → Type 0
IsFirstOf m seen None = (p : List Step) (s w : ℕ) → IsOneOf p seen → ¬ LeadsToCap m p s w
IsFirstOf m seen (Some place) =
    (p : List Step) × IsOneOf p seen × LeadsToCap m p place.0 place.1 × ((q : List Step) (s w : ℕ) → IsOneOf q seen → Before q p → ¬ LeadsToCap m q s w)

-- The paths looked at and the words ahead make a trail, with these numbers and with its first
-- capability at `first`.
pub record Progress (m : List (List ℕ)) (words depth : ℕ) (charge deepest pointers caps : ℕ) (first : Option (ℕ
    × ℕ)) (seen : List (List Step)) (ahead : List Ahead) : Type 0 where
  pub trail : IsTrail m seen ahead
  pub count : IsCount m record { charge = charge; depth = deepest; pointers = pointers; caps = caps } ahead
  pub near : AreInLevels deepest ahead
  pub within : charge ≤ words
  pub shallow : deepest ≤ depth
  pub costs : CostOf m seen charge
  pub levels : AreShallow m depth seen
  pub number : pointers ≡ length seen
  pub bound : pointers + length ahead ≤ charge + 1
  pub few : caps ≤ pointers
  pub first_cap : IsFirstOf m seen first

-- The words of the runs are ahead, the topmost run's first, and those that were looked at are in the report.
pub record HasWalked (m : List (List ℕ)) (words depth : ℕ) (runs : List PointerRun) (report : Report) (seen : List (List Step))
    (ahead : List Ahead) : Type 0 where
  pub progress : Progress m words depth report.charge report.depth report.pointers report.caps report.first_cap seen ahead
  pub places : map pointer_word_of ahead ≡ all_spots (reverse runs)
  pub inside : AllByRecursion (RunIn m) (reverse runs)
  pub stacked : AreStacked depth (reverse runs)

-- The next word to look at is s:w, and leads to this level; then come the words of the runs.
pub record IsNext (m : List (List ℕ)) (words depth s w level : ℕ) (runs : List PointerRun) (report : Report) : Type 0 where
  pub seen : List (List Step)
  pub a : Ahead
  pub ahead : List Ahead
  pub progress : Progress m words depth report.charge report.depth report.pointers report.caps report.first_cap seen (a ∷ ahead)
  pub segment : a.segment ≡ s
  pub at : a.word ≡ w
  pub leads_to : a.level ≡ level
  pub exists : s < length m
  pub within : w < length (segment_of m s)
  pub places : map pointer_word_of ahead ≡ all_spots (reverse runs)
  pub inside : AllByRecursion (RunIn m) (reverse runs)
  pub stacked : AreStacked depth (reverse runs)
  pub high : length (reverse runs) ≤ level
  pub low : level ≤ depth + 1

-- how much is left of a walk: it falls at each turn
abbrev pub work_left : ℕ → List PointerRun → Report → ℕ
work_left words runs report = length (all_spots (reverse runs)) + (words - report.charge)

-- and with one more word to look at
abbrev pub work_next : ℕ → List PointerRun → Report → ℕ
work_next words runs report = suc (work_left words runs report)

-- After these paths the walk looked at pointer word s:w, number n of them, which can be followed at this cost.
pub record IsLookedAt (m : List (List ℕ)) (seen : List (List Step)) (a : Ahead) (s w n cost : ℕ) : Type 0 where
  pub later : List Ahead
  pub trail : IsTrail m seen (a ∷ later)
  pub segment : a.segment ≡ s
  pub word : a.word ≡ w
  pub exists : s < length m
  pub inside : w < length (segment_of m s)
  pub costs : Costs m s w cost
  pub number : n ≡ length seen + 1

-- these paths reach null words
abbrev pub AreNull : List (List ℕ) → List (List Step) → Type 0
AreNull m [] = ⊤
AreNull m (p ∷ paths) = ((level s w : ℕ) × Reaches m p level s w × HasWord m s w 0) × AreNull m paths
