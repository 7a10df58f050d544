-- What stays of a walk that goes past null words (profile).
use Rattle.std.specs.Prelude.{List, [], ℕ, ◌++◌, ◌∷◌, ◌≤◌}
use Rattle.cap_spec.specs.declared.Step.{Step}
use Rattle.cap_walk.specs.Trails.{Ahead}
use Rattle.cap_walk.specs.Walking.{AreNull, HasWalked, work_left}
use Rattle.cap_walk.specs.declared.report.Report.{Report}
use Rattle.cap_walk.specs.declared.pointer_run.PointerRun.{PointerRun}

-- The walk, which had looked at these paths, goes on after null words of run f, and g is left of that.
pub record PassesNulls (m : List (List ℕ)) (words depth : ℕ) (runs : List PointerRun) (seen : List (List Step))
    (f : PointerRun) (report : Report) (g : PointerRun) (after : Report) : Type 0 where
  pub nulls : List (List Step)
  pub later : List Ahead
  pub are_null : AreNull m nulls
  pub walks : HasWalked m words depth (runs ++ g ∷ []) after (nulls ++ seen) later
  pub less : work_left words (runs ++ g ∷ []) after ≤ work_left words (runs ++ f ∷ []) report
