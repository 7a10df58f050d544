-- How most nodes of a range are found: by their number alone, or by one pointer more (profile).
use Rattle.std.specs.Prelude.{List, [], length, slice_index_or, ℕ, ⊤, ◌++◌, ◌<◌, ◌∷◌, ◌≡◌, ◌≤◌}
use Rattle.cap_spec.specs.declared.Step.{Step}
use Rattle.cap_spec.specs.declared.Step.TheVariants.{Ptr}
use Rattle.cap_vet.specs.GivenPaths.{IsStart, LeadsToElements, elements_message}
use Rattle.cap_walk.specs.declared.demands.Demands.{Demands}
use Rattle.cap_vet.specs.declared.nodes.path_start.PathStart.{PathStart}
use Rattle.cap_calls.specs.CallNodes.{none_node}
use Rattle.cap_calls.specs.NodeCalls.{Gets, path_found}
use Rattle.cap_calls.specs.RangeCalls.{path_after, step_after}
use Rattle.cap_calls.specs.declared.answer.Answer.TheVariants.{Good}
use Rattle.cap_calls.specs.declared.calls.get_range.Shortcut.{Shortcut}
use Rattle.cap_calls.specs.declared.calls.get_range.Shortcut.TheVariants.{Elements, Pointers, Unknown}
use Rattle.cap_calls.specs.declared.node.CallNode.{CallNode}
use Rattle.cap_calls.specs.declared.step.CallStep.{CallStep}
use Rattle.cap_frame.specs.declared.segments.Segments as segments

-- After the first steps, the path that goes on with this step and these others has this node.
abbrev pub HasNodeAfter : {M : Type 0} {g : segments.Ghosts M} → List (List ℕ) → PathStart M g → Step → List Step
    → CallNode → Type 0
HasNodeAfter m start step rest node =
    (demands : Demands) (words depth : ℕ) (first : List Step) → IsStart demands m words depth first start
    → Gets (first ++ step ∷ rest) node demands m words depth (path_found Good)

-- The nodes after this start are found so, where a step varies from this one on, and these follow it.
abbrev pub IsShortcut : {M : Type 0} {g : segments.Ghosts M} → List (List ℕ) → PathStart M g → CallStep → List CallStep
    → Shortcut M g → Type 0
IsShortcut {g = g} m start step rest (Elements list number) =
    (g.segments (elements_message list) ≡ m) × LeadsToElements m start list
    × (1 ≤ step.kind) × (number ≡ step.number) × (path_after rest 0 0 ≡ [])
IsShortcut {g = g} m start step rest (Pointers list number j) =
    (g.segments (elements_message list) ≡ m) × LeadsToElements m start list
    × (1 ≤ step.kind) × (number ≡ step.number) × (path_after rest 0 0 ≡ Ptr j ∷ [])
IsShortcut {g = g} m start step rest Unknown = ⊤

-- Path k of a range has this node, whatever the start and the steps are whose nodes are found so.
abbrev pub IsShortcutNode : {M : Type 0} {g : segments.Ghosts M} → Shortcut M g → ℕ → CallNode → Type 0
IsShortcutNode {M = M} {g = g} shortcut k node =
    (m : List (List ℕ)) (start : PathStart M g) (step : CallStep) (rest : List CallStep) → IsShortcut m start step rest shortcut
    → HasNodeAfter m start (step_after step k) (path_after rest 0 0) node

-- The first `count` nodes are written and are so. The others are as they were.
pub record WritesFirst (so : ℕ → CallNode → Type 0) (count : ℕ) (old new : List CallNode) : Type 0 where
  pub size : length new ≡ length old
  pub within : count ≤ length old
  pub nodes : (k : ℕ) → k < count → so k (slice_index_or new k none_node)
  pub rest : (k : ℕ) → count ≤ k → slice_index_or new k none_node ≡ slice_index_or old k none_node

-- this is how many segments the message has
abbrev pub HasCount : {M : Type 0} {g : segments.Ghosts M} → ℕ → Shortcut M g → Type 0
HasCount {g = g} segments (Elements list number) = segments ≡ length (g.segments (elements_message list))
HasCount {g = g} segments (Pointers list number j) = segments ≡ length (g.segments (elements_message list))
HasCount {g = g} segments Unknown = ⊤
