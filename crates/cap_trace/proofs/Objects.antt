-- The pointer words of an object, as a branch.
use Rattle.cap_spec.proofs.Lemmas.{one_word, one_object}
use Rattle.cap_spec.proofs.ProofNames.{List, [], ap, arith, inl, inr, refl, subst, suc, sym}
use Rattle.cap_spec.proofs.ProofNames.{zero, ℕ, ◌+◌, ◌<◌, ◌∙◌, ◌≡◌, ◌≤◌, ◌⊎◌, eqb_tells, word}
use Rattle.cap_spec.proofs.ProofNames.{element_levels, IsComposite, HasWord, code}
use Rattle.cap_spec.proofs.ProofNames.{data_size, middle, pointer_size, IsDeepAt, levels_below}
use Rattle.cap_ptr.specs.Shapes.{FindsObject, FindsTargetBy, IsShape}
use Rattle.cap_ptr.specs.declared.shapes.Shape.{Shape}
use Rattle.cap_ptr.specs.declared.shapes.Target.{Target}
use Rattle.cap_walk.specs.WalkNames.{levels_of, object_children, Ahead, element_rows}
use Rattle.cap_trace.specs.Branches.{StepsFrom}
use Rattle.cap_trace.specs.TraceNames.{Step, Pointers, Struct, Structs, row_branch}
use Rattle.cap_trace.proofs.Branches.{branch}
use Rattle.cap_ptr.specs.declared.shapes.Shape.TheVariants as shape
use Rattle.cap_spec.specs.declared.Kind.TheVariants as kind
use Rattle.cap_spec.proofs.ProofNames.{FindsKind, rules}

-- what kind of object has pointers
module _ (m : List (List ℕ)) (s w k t b q tag n c : ℕ) where
  struct_at : (d p : ℕ) → FindsObject m s w k t b q tag n c (shape.Struct d p) → FindsKind m s w (kind.Struct d p) k t b q tag
  struct_at d p f = search rules

  pointers_at : (count : ℕ) → FindsObject m s w k t b q tag n c (shape.Pointers count) → FindsKind m s w (kind.Pointers count) k t b q tag
  pointers_at count f = search rules

  structs_at : (size count d p : ℕ) → FindsObject m s w k t b q tag n c (shape.Structs size count d p)
      → FindsKind m s w (kind.Structs count d p) k t b q tag
  structs_at size count d p f = search rules

-- elements that have no pointers have no pointer words
no_pointers : (base : List Step) (level t b ds i n : ℕ) → element_rows base level t b ds 0 i n ≡ []
no_pointers base level t b ds i zero = refl
no_pointers base level t b ds i (suc n) = no_pointers base level t (b + ds + 0) ds (i + 1) n

pub structs_empty : (m : List (List ℕ)) (s w : ℕ) {k t b : ℕ} (q tag : ℕ) {n c : ℕ} (size : ℕ) {count : ℕ} (d : ℕ) {p : ℕ} (level : ℕ)
    → FindsObject m s w k t b q tag n c (shape.Structs size count d p) → (count ≡ 0) ⊎ (p ≡ 0) → (base : List Step)
    → ◌≡◌ {A = List Ahead} [] (object_children base q tag t b level)
structs_empty m s w q tag size {count} d level f (inl e) base =
    let x : middle tag ≡ 0 = sym f.object.shape.count ∙ e in rw (f.object.shape.kind, f.object.shape.code, x) refl
structs_empty m s w {t} {b} q tag size d level f (inr e) base =
    let x : pointer_size tag ≡ 0 = sym f.object.shape.pointers ∙ e in
    rw (f.object.shape.kind, f.object.shape.code, x)
    (sym (no_pointers base (level + (element_levels 1 + 1)) t (b + 1) (data_size tag) 0 (middle tag)))

-- how many levels an object takes below its own, by its shape, and by its tag if it has one
pub levels_shape : (q tag other : ℕ) (x : Shape) → IsShape q tag x → (IsComposite q → tag ≡ other)
    → levels_of x ≡ levels_below q other
levels_shape q tag other (shape.Struct d p) h same = rw h.kind refl
levels_shape q tag other (shape.Scalars e n) h same = elim (eqb_tells (code q) 7) [
  | inl f ↦ absurd (omega (arith, f.1, h.code, h.scalar))
  | inr f ↦ rw (h.kind, f.0) refl
]
levels_shape q tag other (shape.Pointers n) h same = rw (h.kind, h.code) refl
levels_shape q tag other (shape.Structs size n d p) h same =
    let e : n ≡ middle other = h.count ∙ ap middle (same (h.kind, h.code)) in rw (h.kind, h.code, e) refl

-- A target whose levels are within the limit isn't past it.
pub not_deep : (m : List (List ℕ)) (depth s w level q tag : ℕ) (x : Target) → FindsTargetBy m s w q tag x
    → level + levels_of x.shape ≤ depth → ¬ IsDeepAt m depth s w level
not_deep m depth s w level q tag x f within (k, t, b, q', other, g, tagged, past) =
    let same = one_object m s w x.pads x.segment x.start q k t b q' f.finds g in
    let levels = levels_shape q tag other x.shape f.object.shape (λ h.
    one_word m t b tag other
    (subst (λ (u : ℕ). HasWord m t u tag) same.start (subst (λ (u : ℕ). HasWord m u x.start tag) same.segment (f.object.tagged h).0))
    (tagged (subst IsComposite same.shape h))) in
    omega (arith, levels, ap (λ (u : ℕ). levels_below u other) same.shape, within)

-- A step leads from the word to each pointer of its struct or of its list, and to each element of a list of structs.
pub struct_steps : (m : List (List ℕ)) {s w k t b q tag n c : ℕ} (d p : ℕ) → FindsObject m s w k t b q tag n c (shape.Struct d p)
    → 0 < p → StepsFrom m (word s w) (row_branch Struct t (b + d) p)
struct_steps m {s} {w} {k} {t} {b} {q} {tag} {n} {c} d p f some =
    (some, λ i less. (k, t, b, q, tag, d, p, struct_at m s w k t b q tag n c d p f, less, refl))

pub pointers_steps : (m : List (List ℕ)) {s w k t b q tag n c : ℕ} (count : ℕ)
    → FindsObject m s w k t b q tag n c (shape.Pointers count) → 0 < count → StepsFrom m (word s w) (row_branch Pointers t b count)
pointers_steps m {s} {w} {k} {t} {b} {q} {tag} {n} {c} count f some =
    (some, λ i less. inl (k, t, b, q, tag, count, pointers_at m s w k t b q tag n c count f, less, refl))

pub structs_steps : (m : List (List ℕ)) {s w k t b q tag n c : ℕ} (size count d p : ℕ)
    → FindsObject m s w k t b q tag n c (shape.Structs size count d p) → 0 < count
    → StepsFrom m (word s w) (branch Structs t (b + 1) count 0 d p)
structs_steps m {s} {w} {k} {t} {b} {q} {tag} {n} {c} size count d p f some =
    (some, λ i less. inr (k, t, b, q, tag, count, d, p, structs_at m s w k t b q tag n c size count d p f, less, refl))
