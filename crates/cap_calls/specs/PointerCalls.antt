-- What the call for the path to a pointer word returns and writes, from the bytes and the capacity alone (profile).
use Rattle.std.specs.Prelude.{List, drop, length, map, not, ℕ, ◌++◌, ◌+◌, ◌<◌, ◌≡◌, ◌≤◌}
use Rattle.cap_spec.specs.declared.Step.{Step}
use Rattle.cap_spec.specs.declared.Step.TheVariants.{Item, Ptr}
use Rattle.cap_trace.specs.PointerNumbers.{IsTraceable}
use Rattle.cap_calls.specs.CallFindings.{Returns}
use Rattle.cap_calls.specs.CallFlags.{allows_trailing}
use Rattle.cap_calls.specs.CallInputs.{ReportsInput}
use Rattle.cap_calls.specs.CallReports.{none_report}
use Rattle.cap_calls.specs.NodeCalls.{path_found}
use Rattle.cap_calls.specs.declared.answer.Answer.{Answer}
use Rattle.cap_calls.specs.declared.answer.Answer.TheVariants.{BufferTooSmall, Good, NoNode}
use Rattle.cap_calls.specs.declared.found.Found.{Found}
use Rattle.cap_calls.specs.declared.limits.CallLimits.{CallLimits}
use Rattle.cap_calls.specs.declared.report.CallReport.{CallReport}
use Rattle.cap_calls.specs.declared.step.CallStep.{CallStep}

-- A step to a pointer has kind 0, one to an element kind 1.
abbrev pub call_step : Step → CallStep
call_step (Ptr i) = record { kind = 0; number = i }
call_step (Item i) = record { kind = 1; number = i }

-- of a path of n steps, apart from its frame
abbrev pub steps_found : Answer → ℕ → Found
steps_found a n = record { answer = a; count = n; report = none_report }

-- The path is number n, can be traced, and the number is one that a verdict may have.
pub record IsNumberedPath (m : List (List ℕ)) (words depth n : ℕ) (path : List Step) : Type 0 where
  pub traceable : IsTraceable m depth n path
  pub within : n ≤ words + 1

-- Of a message, for a buffer that held `old`, and then holds `new`: the path to pointer word n, or that there is none
-- that can be traced, or that no verdict has this number.
pub data FindsPointer (n : ℕ) (old new : List CallStep) (m : List (List ℕ)) (words depth : ℕ) (f : Found) : Type 0 where
  written : (path : List Step) → IsNumberedPath m words depth n path → length path ≤ length old
      → f ≡ steps_found Good (length path) → new ≡ map call_step path ++ drop (length path) old
      → FindsPointer n old new m words depth f
  too_small : (path : List Step) → IsNumberedPath m words depth n path → length old < length path
      → f ≡ steps_found BufferTooSmall (length path) → new ≡ old
      → FindsPointer n old new m words depth f
  none : ((path : List Step) → ¬ IsNumberedPath m words depth n path) → f ≡ path_found NoNode → new ≡ old
      → FindsPointer n old new m words depth f

-- the same, with at most as many steps as the depth limit has levels
abbrev pub FindsFew : ℕ → List CallStep → List CallStep → List (List ℕ) → ℕ → ℕ → Found → Type 0
FindsFew n old new m words depth f = FindsPointer n old new m words depth f × (f.count ≤ depth)

-- Of the message that the input is or starts with.
abbrev pub ReportsPointer : CallLimits → List ℕ → ℕ → List CallStep → Answer → ℕ → List CallStep → CallReport → Type 0
ReportsPointer l bytes n old a required new r =
    (f : Found) × ReportsInput (not (allows_trailing l)) (new ≡ old) (FindsPointer n old new) l bytes f
    × Returns f a r × (required ≡ f.count)
