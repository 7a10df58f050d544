-- A message that is compared with its copy, one object more.
use Rattle.cap_spec.proofs.Canonical.TreeMeasures.{Fits}
use Rattle.cap_spec.proofs.ProofNames.{List, [], length, ℕ, ◌++◌, ◌+◌, ◌∷◌, ◌≤◌, trim, Denotes, segment_of, Tree, rules}
use Rattle.cap_canon.specs.CanonNames.{IsChecked, Due, IsPointed, OwnAt, below, own_size}
use Rattle.cap_canon.proofs.LaidSteps.{object_laid}
use Rattle.cap_canon.proofs.Walks.{root_fits, root_inside}
use Rattle.cap_canon.proofs.Whole.{layout_laid}

-- the root is due
pub check_first : (m : List (List ℕ)) (t : Tree) (c d : ℕ) → Denotes m 0 0 t c d → IsChecked m (trim t) 1 (record { slot = 0; tree = trim t } ∷ [])
check_first m t c d h = let k = layout_laid (segment_of m 0) (trim t) (root_fits m t c d h) in record { inside = root_inside m t c d h; laid = (k.1, k.0) }

-- one object that is as a copy has it
pub check_on : (m : List (List ℕ)) (whole u : Tree) (slot end : ℕ) (due : List Due) → Fits u → end + own_size u ≤ length (segment_of m 0)
    → IsPointed (segment_of m 0) end slot u
    → OwnAt (segment_of m 0) end u → IsChecked m whole end (record { slot = slot; tree = u } ∷ due) → IsChecked m whole (end + own_size u) (below end u ++ due)
check_on m whole u slot end due f le p own k = search (rules, object_laid (segment_of m 0) end slot u due f)
