-- The kind of an object, by its shape as code has it.
use Rattle.cap_spec.specs.ObjectShapes.{is_pointers, is_scalars, is_struct, is_structs}
use Rattle.cap_spec.specs.declared.Kind.{Kind}
use Rattle.cap_spec.specs.declared.Kind.TheVariants.{Pointers, Scalars, Struct, Structs}
use Rattle.cap_spec.proofs.Pointers.Shapes.{one_kind, struct_words}
use Rattle.cap_spec.proofs.ProofNames.{List, Option, ap, arith, cases_eq, inl, inr, refl, rules, subst, ℕ, ◌∙◌, ◌≡◌, ◌≢◌}
use Rattle.cap_spec.proofs.ProofNames.{FindsKind, HasKind, extent}
use Rattle.cap_ptr.specs.Shapes.{FindsObject, IsShape}
use Rattle.cap_ptr.specs.declared.shapes.Shape.{Shape}
use Rattle.cap_difference.specs.Reasons.{Decides, ObjectDiffers, pointers_place, struct_place, structs_place, values_place}
use Rattle.cap_difference.specs.declared.reason.DifferenceReason.{DifferenceReason}
use Rattle.cap_difference.specs.declared.reason.DifferenceReason.TheVariants.{Place}
use Rattle.cap_ptr.specs.declared.shapes.Shape.TheVariants as shape

-- the kind of a shape
abbrev pub kind_at : Shape → Kind
kind_at (shape.Struct d p) = Struct d p
kind_at (shape.Scalars c n) = Scalars c n
kind_at (shape.Pointers n) = Pointers n
kind_at (shape.Structs size n d p) = Structs n d p

pub has_kind : (q tag : ℕ) (x : Shape) → IsShape q tag x → HasKind q tag (kind_at x)
has_kind q tag (shape.Struct d p) h = let a = h.data_words in let b = h.pointers in is_struct h.kind cc
has_kind q tag (shape.Scalars c n) h = let a = h.code in let b = h.count in is_scalars h.kind (omega (arith, h.code, h.scalar)) cc
has_kind q tag (shape.Pointers n) h = is_pointers h.kind h.code (ap Pointers h.count)
has_kind q tag (shape.Structs size n d p) h = let a = h.count in let b = h.data_words in let e = h.pointers in is_structs h.kind h.code cc

-- what is decided of the kind of a shape is decided of each kind that the object has
pub decided_by_kind : (m : List (List ℕ)) (end p t b q tag : ℕ) (x : Shape) (what : Kind) (r : Option DifferenceReason) → IsShape q tag x
    → HasKind q tag what → Decides (ObjectDiffers m end p t b q (kind_at x)) r → Decides (ObjectDiffers m end p t b q what) r
decided_by_kind m end p t b q tag x what r h k d =
    subst (λ u. Decides (ObjectDiffers m end p t b q u) r) (one_kind q tag tag (kind_at x) what (λ _. refl) (has_kind q tag x h) k) d

-- an object with words that doesn't differ is at the end of the copy
pub object_placed : (m : List (List ℕ)) (end p t b q tag : ℕ) (what : Kind) → HasKind q tag what → extent q ≢ 0
    → ((reason : DifferenceReason) → ¬ ObjectDiffers m end p t b q what reason) → b ≡ end
object_placed m end p t b q tag what k some none = elim (cases_eq b end) [ inl e ↦ e | inr n ↦ absurd (apart what k none n) ]
  where
    apart : (what : Kind) → HasKind q tag what → ((reason : DifferenceReason) → ¬ ObjectDiffers m end p t b q what reason) → b ≢ end → ⊥
    apart (Struct ds ps) k none n = none Place (struct_place refl (λ z. some (struct_words k ∙ z)) n)
    apart (Scalars c l) k none n = none Place (values_place refl n)
    apart (Pointers l) k none n = none Place (pointers_place refl n)
    apart (Structs l ds ps) k none n = none Place (structs_place refl n)
    apart what k none n = search rules

-- the object of a pointer is of the kind of its shape
pub kind_found : {m : List (List ℕ)} {s w k t b q tag n c : ℕ} (x : Shape) → FindsObject m s w k t b q tag n c x
    → FindsKind m s w (kind_at x) k t b q tag
kind_found {m} {s} {w} {k} {t} {b} {q} {tag} {n} {c} x f =
    record { finds = f.finds; tagged = λ z. (f.object.tagged z).0; shape = has_kind q tag x f.object.shape }
