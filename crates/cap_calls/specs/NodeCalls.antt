-- What the call for the node at a path returns and reports, from the bytes and the path alone (profile).
use Rattle.std.specs.List.{AllByRecursion}
use Rattle.std.specs.Prelude.{List, slice_set, ℕ, ◌≡◌}
use Rattle.cap_spec.specs.Arriving.{PathFinds}
use Rattle.cap_spec.specs.PathTexts.{IsBadAt, IsStep, path_text}
use Rattle.cap_spec.specs.declared.Kind.{Kind}
use Rattle.cap_spec.specs.declared.Step.{Step}
use Rattle.cap_spec.specs.declared.StrictRefusal.{StrictRefusal}
use Rattle.cap_vet.specs.PathDemands.{IsPathFault, MeetsOnPath}
use Rattle.cap_walk.specs.declared.demands.Demands.{Demands}
use Rattle.cap_calls.specs.CallFindings.{Returns, none_found, refused_found}
use Rattle.cap_calls.specs.CallFlags.{demands_of}
use Rattle.cap_calls.specs.CallFrames.{AreLimits}
use Rattle.cap_calls.specs.CallNodes.{kind_node, none_node, offset_of}
use Rattle.cap_calls.specs.CallReports.{none_report}
use Rattle.cap_calls.specs.Calls.{ReportsMessage}
use Rattle.cap_calls.specs.declared.answer.Answer.{Answer}
use Rattle.cap_calls.specs.declared.answer.Answer.TheVariants.{BadPath, Good, NoNode}
use Rattle.cap_calls.specs.declared.found.Found.{Found}
use Rattle.cap_calls.specs.declared.front.NoFrame.TheVariants.{BadLimits}
use Rattle.cap_calls.specs.declared.limits.CallLimits.{CallLimits}
use Rattle.cap_calls.specs.declared.node.CallNode.{CallNode}
use Rattle.cap_calls.specs.declared.report.CallReport.{CallReport}

-- of a text that stops being a path at this byte
abbrev pub bad_path_found : ℕ → Found
bad_path_found at = record { answer = BadPath; count = 0; report = record none_report { detail = at } }

-- of a path whose pointers meet the demands, apart from its frame
abbrev pub path_found : Answer → Found
path_found a = record { answer = a; count = 0; report = none_report }

-- Of a path in a message: its pointers don't meet the demands, or nothing is at the path, or this node.
pub data Gets (path : List Step) (node : CallNode) (demands : Demands) (m : List (List ℕ)) (words depth : ℕ) (f : Found)
    : Type 0 where
  no_meeting : (refusal : StrictRefusal) → IsPathFault demands m words depth path refusal → f ≡ refused_found refusal
      → node ≡ none_node
      → Gets path node demands m words depth f
  no_node : MeetsOnPath demands m words depth path → ((k : Kind) (t b n : ℕ) → ¬ PathFinds m path k t b n)
      → f ≡ path_found NoNode → node ≡ none_node
      → Gets path node demands m words depth f
  a_node : (k : Kind) (t b n : ℕ) → MeetsOnPath demands m words depth path → PathFinds m path k t b n
      → f ≡ path_found Good → node ≡ kind_node k (offset_of m t b)
      → Gets path node demands m words depth f

-- Of a text: a limit is bad, or the text isn't a path, or this is found of its path in the message that the
-- bytes are, or by the form start with.
pub data ReportsPathCall (l : CallLimits) (bytes text : List ℕ) (node : CallNode) (f : Found) : Type 0 where
  bad_limits : ¬ AreLimits l → f ≡ none_found BadLimits → node ≡ none_node → ReportsPathCall l bytes text node f
  bad_path : (at : ℕ) → AreLimits l → IsBadAt text at → f ≡ bad_path_found at → node ≡ none_node
      → ReportsPathCall l bytes text node f
  a_path : (path : List Step) → AllByRecursion IsStep path → text ≡ path_text path
      → ReportsMessage (node ≡ none_node) (Gets path node (demands_of l)) l bytes f
      → ReportsPathCall l bytes text node f

abbrev pub ReportsGet : CallLimits → List ℕ → List ℕ → Answer → CallNode → CallReport → Type 0
ReportsGet l bytes text a node r = (f : Found) × ReportsPathCall l bytes text node f × Returns f a r

-- what is found of a path is put into the first of some nodes
abbrev pub GetsFirst : List Step → List CallNode → List CallNode → Demands → List (List ℕ) → ℕ → ℕ → Found → Type 0
GetsFirst path old new demands m words depth f =
    (node : CallNode) × Gets path node demands m words depth f × (new ≡ slice_set old 0 node)
