-- A copy after one object more.
use Rattle.cap_spec.proofs.ProofNames.{rules, List, [], arith, inl, length, length-append, length-set, set, ℕ, ◌++◌}
use Rattle.cap_spec.proofs.ProofNames.{◌+◌, ◌-◌, ◌<◌, ◌∷◌, ◌≡◌, get_or_from_slice_get, pointer_to, Tree}
use Rattle.cap_canon.specs.Filling.{Agrees, OwnAppended}
use Rattle.cap_canon.specs.Laying.{Due, IsPointed, OwnAt, below, own_size}
use Rattle.cap_canon.proofs.Agreeing.{agrees_append, agrees_set}
use Rattle.cap_canon.proofs.Filling.{due_left, due_right}

-- one object more: its pointer word was set, and its own words were appended
pub agrees_more : (old whole : List ℕ) {new : List ℕ} {end slot value : ℕ} {u : Tree} (due : List Due) → length old ≡ end → slot < end
    → value ≡ pointer_to (end - slot - 1) u
    → IsPointed whole end slot u → OwnAt whole end u → OwnAppended (set old slot value) new u → Agrees old whole (record { slot = slot; tree = u } ∷ due)
    → Agrees new whole (below end u ++ due)
agrees_more old whole due many lt v p own app a =
    search (rules, length-set, get_or_from_slice_get, agrees_set, agrees_append, due_right, due_left)

pub length_more : (old : List ℕ) {new : List ℕ} {end : ℕ} (slot value : ℕ) {u : Tree} → length old ≡ end → OwnAppended (set old slot value) new u → length new ≡ end + own_size u
length_more old slot value many app = search (rules, length-set, length-append)

-- the root word alone, which is due
pub root_agrees : (whole : List ℕ) (x : ℕ) (u : Tree) → Agrees (x ∷ []) whole (record { slot = 0; tree = u } ∷ [])
root_agrees whole x u i lt = inl (inl (omega (arith, lt)))
