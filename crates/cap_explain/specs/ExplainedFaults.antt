-- The lines that explain why a message doesn't meet the demands, and the other pointer of an overlap (profile).
use Rattle.std.specs.Prelude.{Bool, List, None, Option, Some, [], ℕ}
use Rattle.cap_spec.specs.declared.Step.{Step}
use Rattle.cap_spec.specs.declared.StrictRefusal.{StrictRefusal}
use Rattle.cap_walk.specs.Demands.{IsDemandFault, words_under}
use Rattle.cap_walk.specs.declared.demands.Demands.{Demands}
use Rattle.cap_trace.specs.NamedPaths.{fault_path}
use Rattle.cap_trace.specs.declared.earlier.EarlierPointer.{EarlierPointer}
use Rattle.cap_trace.specs.declared.returning.Cycle.{Cycle}
use Rattle.cap_explain.specs.Charges.{fault_charge}
use Rattle.cap_explain.specs.Explaining.{earlier_explanation, explanation}
use Rattle.cap_explain.specs.declared.numbers.MessageStart.{MessageStart}
use Rattle.cap_explain.specs.declared.numbers.Numbers.{Numbers}

-- the numbers of a message that doesn't meet the demands: its limits, its charge up to the pointer that is named, and
-- the last cycle of its path. Then whether it has a segment table, and where it begins
abbrev pub fault_numbers : (has_table : Bool) (demands : Demands) (m : List (List ℕ)) (words depth : ℕ)
    (fault : StrictRefusal) → IsDemandFault demands m words depth fault → Option Cycle → Option MessageStart → Numbers
fault_numbers has_table demands m words depth fault h cycle start = record {
  words = words_under demands m words;
  depth = depth;
  charge = fault_charge demands m words depth fault h;
  cycle = cycle;
  has_table = has_table;
  start = start;
}

-- the lines that explain it, the path first
abbrev pub fault_lines : (has_table : Bool) (demands : Demands) (m : List (List ℕ)) (words depth : ℕ)
    (fault : StrictRefusal) → IsDemandFault demands m words depth fault → Option Cycle → Option MessageStart → List ℕ
fault_lines has_table demands m words depth fault h cycle start =
    explanation (fault_path demands m words depth fault h) m fault
    (fault_numbers has_table demands m words depth fault h cycle start)

-- the line of the first pointer that uses a word which an overlap's pointer uses too, if there is one
abbrev pub earlier_lines : Option (List Step) → Option EarlierPointer → List ℕ
earlier_lines path None = []
earlier_lines path (Some e) = earlier_explanation path e.segment e.word
