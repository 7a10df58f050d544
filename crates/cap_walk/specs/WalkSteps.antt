-- What a walk goes on with after one pointer word (profile).
use Rattle.std.specs.Prelude.{IfErr, IfOk, List, Option, Result, [], length, option_to_list, ℕ, ⊤, ◌++◌, ◌<◌, ◌∷◌, ◌≡◌}
use Rattle.cap_spec.specs.declared.Step.{Step}
use Rattle.cap_walk.specs.Limits.{words_of}
use Rattle.cap_walk.specs.PointerRuns.{IsRest}
use Rattle.cap_walk.specs.Turns.{GoesOn, HoldsBefore, IsStopped}
use Rattle.cap_walk.specs.Walking.{work_left}
use Rattle.cap_walk.specs.declared.limits.Limits.{Limits}
use Rattle.cap_walk.specs.declared.report.Report.{Report}
use Rattle.cap_walk.specs.declared.pointer_run.PointerRun.{PointerRun}
use Rattle.cap_walk.specs.declared.turn.Stopped.{Stopped}
use Rattle.cap_walk.specs.declared.walking.Next.{Next}
use Rattle.cap_walk.specs.declared.walking.Next.TheVariants.{Done, Full, More}

-- the runs that are left: those of the stack and the current one, or none
abbrev pub runs_left : Next → List PointerRun → PointerRun → List PointerRun
runs_left More items run = items ++ run ∷ []
runs_left Full items run = items ++ run ∷ []
runs_left Done items run = []

-- whether a stack of n runs may take one more, if it may have this many at most
abbrev pub LeavesCapacity : Next → ℕ → ℕ → Type 0
LeavesCapacity More n most = n < most
LeavesCapacity Full n most = n ≡ most
LeavesCapacity Done n most = ⊤

-- After the first word of a run the run below it is left, and then what comes after that word.
pub record Continues (next : Next) (before : List PointerRun) (old : PointerRun)
    (below : Option PointerRun) (after : List PointerRun) (new : PointerRun) : Type 0 where
  pub rest : Option PointerRun
  pub is_rest : IsRest old rest
  pub runs : (before ++ option_to_list rest) ++ option_to_list below ≡ runs_left next after new

-- The walk goes on with what is left, and less of it than before.
abbrev pub GoesOnWith : List (List ℕ) → Limits → Next → List PointerRun → PointerRun → Report → List PointerRun → PointerRun → Report
    → (List (List Step) → Type 0) → Type 0
GoesOnWith m limits next before old report after new counted K =
    GoesOn m limits (runs_left next after new) counted K (work_left (words_of limits) (before ++ old ∷ []) report)

-- What a turn at the first word of a run comes to: the walk goes on with what is left, or it stops.
pub record TakesTurn {S : Type 0} (m : List (List ℕ)) (limits : Limits) (most : ℕ) (before : List PointerRun) (old : PointerRun)
    (report : Report) (after : List PointerRun) (new : PointerRun) (counted : Report) (K : List (List Step) → Type 0)
    (stops : S → Type 0) (result : Result Next (Stopped S)) : Type 0 where
  pub ok : IfOk result (λ next. GoesOnWith m limits next before old report after new counted K)
  pub fits : IfOk result (λ next. LeavesCapacity next (length after) most)
  pub err : IfErr result (IsStopped m limits stops)
  pub known : IfErr result (HoldsBefore m limits K)
