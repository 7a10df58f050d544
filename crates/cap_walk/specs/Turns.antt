-- What is known of a walk, and of what its turn knows, between two pointer words (profile).
use Rattle.std.specs.Prelude.{IfOk, IfSome, List, Option, Result, [], option_to_list, reverse, ℕ, ⊤, ◌++◌, ◌<◌}
use Rattle.std.specs.Prelude.{◌≡◌, ◌⊎◌}
use Rattle.cap_spec.specs.Faults.{HasNoRoot, IsFirstFault, IsRefused}
use Rattle.cap_spec.specs.declared.Refusal.{Refusal}
use Rattle.cap_spec.specs.declared.Step.{Step}
use Rattle.cap_walk.specs.Limits.{depth_of, words_of}
use Rattle.cap_walk.specs.Trails.{Ahead, IsTrail}
use Rattle.cap_walk.specs.Walking.{HasWalked, IsNext, work_left, work_next}
use Rattle.cap_walk.specs.declared.limits.Limits.{Limits}
use Rattle.cap_walk.specs.declared.report.Report.{Report}
use Rattle.cap_walk.specs.declared.pointer_run.PointerRun.{PointerRun}
use Rattle.cap_walk.specs.declared.turn.Stopped.{Stopped}
use Rattle.cap_walk.specs.declared.turn.Stopped.TheVariants.{ByTurn, Refused}

-- The walk has come this far, and K holds of the paths that it has looked at.
pub record IsWalking (m : List (List ℕ)) (limits : Limits) (runs : List PointerRun) (report : Report) (K : List (List Step) → Type 0) : Type 0 where
  pub seen : List (List Step)
  pub ahead : List Ahead
  pub walks : HasWalked m (words_of limits) (depth_of limits) runs report seen ahead
  pub known : K seen

-- the next word to look at is s:w within these limits
abbrev pub IsNextIn : List (List ℕ) → Limits → ℕ → ℕ → ℕ → List PointerRun → Report → Type 0
IsNextIn m limits = IsNext m (words_of limits) (depth_of limits)

-- The next word to look at is s:w, then those of the runs, and K holds of the paths before it.
pub record IsAt (m : List (List ℕ)) (limits : Limits) (s w level : ℕ) (runs : List PointerRun) (report : Report) (K : List (List Step) → Type 0) : Type 0 where
  pub next : IsNext m (words_of limits) (depth_of limits) s w level runs report
  pub known : K next.seen

-- The walk goes on, and less than this is left of it.
pub record GoesOn (m : List (List ℕ)) (limits : Limits) (runs : List PointerRun) (report : Report) (K : List (List Step) → Type 0) (left : ℕ) : Type 0 where
  pub walking : IsWalking m limits runs report K
  pub less : work_left (words_of limits) runs report < left

-- the same after the next word, with the run below it
abbrev pub GoesOnBelow : List (List ℕ) → Limits → List PointerRun → Option PointerRun → Report → Report
    → (List (List Step) → Type 0) → Type 0
GoesOnBelow m limits runs below before after K =
    GoesOn m limits (runs ++ option_to_list below) after K (work_next (words_of limits) runs before)

-- the same if the turn has a result, and that doesn't stop the walk
abbrev pub GoesOnIf : {S : Type 0} → List (List ℕ) → Limits → List PointerRun → Report → Report → (List (List Step) → Type 0)
    → Option (Result (Option PointerRun) S) → Type 0
GoesOnIf m limits runs before after K result = IfSome result (λ r. IfOk r (λ below. GoesOnBelow m limits runs below before after K))

-- why a walk stops: at the first fault, or for a reason of its turn
abbrev pub IsStopped : {S : Type 0} → List (List ℕ) → Limits → (S → Type 0) → Stopped S → Type 0
IsStopped m limits stops (Refused refusal) = IsRefused m (words_of limits) (depth_of limits) refusal
IsStopped m limits stops (ByTurn stop) = stops stop

-- The next word is the first fault, after the paths that were looked at.
abbrev pub IsFaultNext : List (List ℕ) → Limits → ℕ → ℕ → ℕ → Report → Refusal → Type 0
IsFaultNext m limits s w level report refusal =
    (runs : List PointerRun) (n : IsNextIn m limits s w level runs report)
    → (f : IsFirstFault m (words_of limits) (depth_of limits) refusal) × (f.fault.before ≡ reverse n.seen)

-- where a walk stops at the first fault, K holds of all paths before it, the last in preorder first; without a root there is none
abbrev pub HoldsBefore : {S : Type 0} → List (List ℕ) → Limits → (List (List Step) → Type 0) → Stopped S → Type 0
HoldsBefore m limits K (Refused refusal) = (HasNoRoot m refusal × K [])
    ⊎ ((f : IsFirstFault m (words_of limits) (depth_of limits) refusal) × (seen : List (List Step)) × (f.fault.before ≡ reverse seen) × K seen)
HoldsBefore m limits K (ByTurn stop) = ⊤

-- K holds of all paths that reach pointer words, the last in preorder first
abbrev pub HoldsOfAll : List (List ℕ) → (List (List Step) → Type 0) → Type 0
HoldsOfAll m K = (seen : List (List Step)) × IsTrail m seen [] × K seen
