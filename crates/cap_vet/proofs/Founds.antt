-- What following a pointer word finds.
use Rattle.cap_spec.specs.declared.Kind.TheVariants.{Cap, Null}
use Rattle.cap_spec.proofs.Lemmas.{extent_scalars, extent_struct}
use Rattle.cap_spec.proofs.ProofNames.{List, arith, ℕ, FindsKind, Leads, to_cap, to_null, IsMessage, rules, word}
use Rattle.cap_ptr.specs.Shapes.{FindsObject}
use Rattle.cap_ptr.specs.declared.shapes.Shape.{Shape}
use Rattle.cap_vet.specs.Finding.{IsFound, kind_of_shape}

-- null, without words
pub null_found : (m : List (List ℕ)) (s w k : ℕ) → IsMessage m → Leads m s w k to_null
    → IsFound m (word s w) record { kind = Null; place = record { segment = 0; start = 0; words = 0 } }
null_found m s w k h l = record { object = (k, l); exists = h.some; inside = omega arith; own = omega arith }

-- a capability
pub cap_found : (m : List (List ℕ)) (s w k i : ℕ) → IsMessage m → Leads m s w k (to_cap i)
    → IsFound m (word s w) record { kind = Cap i; place = record { segment = 0; start = 0; words = 0 } }
cap_found m s w k i h l = record { object = (k, l); exists = h.some; inside = omega arith; own = omega arith }

-- an object
module _ (m : List (List ℕ)) (s w k t b q tag n c : ℕ) where
  pub object_at : (x : Shape) → FindsObject m s w k t b q tag n c x → FindsKind m s w (kind_of_shape x) k t b q tag
  object_at x f = search rules

  pub object_found : (x : Shape) → FindsObject m s w k t b q tag n c x
      → IsFound m (word s w) record { kind = kind_of_shape x; place = record { segment = t; start = b; words = n } }
  object_found x f = search (rules, object_at, extent_struct, extent_scalars)
