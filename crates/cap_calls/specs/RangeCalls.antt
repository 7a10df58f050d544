-- What the call for the nodes of a range returns and reports, from the bytes and the steps alone (profile).
use Rattle.std.specs.Prelude.{List, [], length, min, slice_index_or, suc, zero, ℕ, ◌+◌, ◌<◌, ◌∷◌, ◌≡◌, ◌≤◌}
use Rattle.cap_spec.specs.declared.Step.{Step}
use Rattle.cap_spec.specs.declared.Step.TheVariants.{Item, Ptr}
use Rattle.cap_walk.specs.declared.demands.Demands.{Demands}
use Rattle.cap_calls.specs.CallFindings.{Returns, none_found}
use Rattle.cap_calls.specs.CallFlags.{demands_of}
use Rattle.cap_calls.specs.CallFrames.{AreLimits}
use Rattle.cap_calls.specs.CallNodes.{none_node}
use Rattle.cap_calls.specs.Calls.{ReportsMessage}
use Rattle.cap_calls.specs.NodeCalls.{Gets, bad_path_found, path_found}
use Rattle.cap_calls.specs.declared.answer.Answer.{Answer}
use Rattle.cap_calls.specs.declared.answer.Answer.TheVariants.{Good}
use Rattle.cap_calls.specs.declared.found.Found.{Found}
use Rattle.cap_calls.specs.declared.front.NoFrame.TheVariants.{BadLimits}
use Rattle.cap_calls.specs.declared.limits.CallLimits.{CallLimits}
use Rattle.cap_calls.specs.declared.node.CallNode.{CallNode}
use Rattle.cap_calls.specs.declared.report.CallReport.{CallReport}
use Rattle.cap_calls.specs.declared.step.CallStep.{CallStep}

-- A step of kind 0 is to a pointer, one of kind 1 to an element.
abbrev pub step_of_kind : ℕ → ℕ → Step
step_of_kind zero number = Ptr (min number 65535)
step_of_kind (suc k) number = Item (min number 4294967295)

-- The step with `more` added to its number. No struct has a pointer 65535, and no list an element
-- 4294967295 (`high_numbers_lead_to_no_node` in `cap_laws`). So numbers past these lead to nothing as these do.
abbrev pub step_after : CallStep → ℕ → Step
step_after s more = step_of_kind s.kind (s.number + more)

-- the path of these steps, with `more` added to the number of the varying one
abbrev pub path_after : List CallStep → ℕ → ℕ → List Step
path_after [] varying more = []
path_after (s ∷ steps) zero more = step_after s more ∷ path_after steps zero zero
path_after (s ∷ steps) (suc varying) more = step_after s zero ∷ path_after steps varying more

-- the kind of the step of this number
abbrev pub kind_at : List CallStep → ℕ → ℕ
kind_at steps i = (slice_index_or steps i record { kind = 0; number = 0 }).kind

-- Each kind is 0 or 1, and the varying step is one of them.
pub record AreStepKinds (steps : List CallStep) (varying : ℕ) : Type 0 where
  pub known : (i : ℕ) → i < length steps → kind_at steps i ≤ 1
  pub inside : varying < length steps

-- the first step of an unknown kind, or the number of steps if the varying one is past them
pub data IsBadStep (steps : List CallStep) (varying at : ℕ) : Type 0 where
  unknown : at < length steps → 1 < kind_at steps at → ((i : ℕ) → i < at → kind_at steps i ≤ 1)
      → IsBadStep steps varying at
  past : ((i : ℕ) → i < length steps → kind_at steps i ≤ 1) → length steps ≤ varying → at ≡ length steps
      → IsBadStep steps varying at

-- Why a range ends: each path has a node. Or nothing is at this path, or a pointer on it doesn't meet the
-- demands; then this is found of it.
pub data EndsRange (path : ℕ → List Step) (capacity : ℕ) (demands : Demands) (m : List (List ℕ)) (words depth : ℕ) (f : Found)
    : Type 0 where
  full : f ≡ record (path_found Good) { count = capacity } → EndsRange path capacity demands m words depth f
  stops : f.count < capacity → (g : Found) → Gets (path f.count) none_node demands m words depth g
      → ¬ (g ≡ path_found Good) → f ≡ record g { count = f.count }
      → EndsRange path capacity demands m words depth f

-- Node k is what is got of path k, up to the first path of which no node is got. The nodes from there on
-- are as they were.
pub record GetsRange (path : ℕ → List Step) (old new : List CallNode) (demands : Demands) (m : List (List ℕ))
    (words depth : ℕ) (f : Found) : Type 0 where
  pub size : length new ≡ length old
  pub nodes : (k : ℕ) → k < f.count → Gets (path k) (slice_index_or new k none_node) demands m words depth (path_found Good)
  pub rest : (k : ℕ) → f.count ≤ k → slice_index_or new k none_node ≡ slice_index_or old k none_node
  pub end : EndsRange path (length old) demands m words depth f

-- Of steps: a limit is bad, or they aren't a path, or this is found of the nodes of the range.
pub data ReportsSteps (l : CallLimits) (bytes : List ℕ) (steps : List CallStep) (varying : ℕ) (old new : List CallNode)
    (f : Found) : Type 0 where
  bad_limits : ¬ AreLimits l → f ≡ none_found BadLimits → new ≡ old → ReportsSteps l bytes steps varying old new f
  bad_steps : (at : ℕ) → AreLimits l → IsBadStep steps varying at → f ≡ bad_path_found at → new ≡ old
      → ReportsSteps l bytes steps varying old new f
  range : AreStepKinds steps varying
      → ReportsMessage (new ≡ old) (GetsRange (λ k. path_after steps varying k) old new (demands_of l)) l bytes f
      → ReportsSteps l bytes steps varying old new f

abbrev pub ReportsRange : CallLimits → List ℕ → List CallStep → ℕ → List CallNode → Answer → ℕ → List CallNode → CallReport
    → Type 0
ReportsRange l bytes steps varying old a n new r =
    (f : Found) × ReportsSteps l bytes steps varying old new f × Returns f a r × (n ≡ f.count)

-- A call for the nodes of a range in these bytes: what it is given, and what it returns, writes and reports.
pub record RangeCall (l : CallLimits) (bytes : List ℕ) : Type 0 where
  pub steps : List CallStep
  pub varying : ℕ
  pub before : List CallNode
  pub returned : Answer
  pub count : ℕ
  pub after : List CallNode
  pub report : CallReport
  pub reports : ReportsRange l bytes steps varying before returned count after report
