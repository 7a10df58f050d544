-- The kind of an object gives the fields of its word and of its tag.
use Rattle.std.proofs.Common.{ne_eqb, refl, ℕ, ◌+◌, ◌≡◌}
use Rattle.cap_spec.specs.Denoting.{element_levels, levels_below}
use Rattle.cap_spec.specs.Following.{IsComposite, extra}
use Rattle.cap_spec.specs.ObjectShapes.{HasKind, IsPointersShape, IsScalarsShape, IsStructShape, IsStructsShape}
use Rattle.cap_spec.specs.Pointers.{code, extent, list_size, list_words}
use Rattle.cap_spec.specs.declared.Kind.{Kind}
use Rattle.cap_spec.specs.declared.Kind.TheVariants.{Pointers, Scalars, Struct, Structs}
use Rattle.cap_spec.proofs.ProofNames.{rules}

-- the parts of a struct, of a list of values, of a list of pointers and of a list of structs
pub struct_shape : {q tag ds ps : ℕ} → HasKind q tag (Struct ds ps) → IsStructShape q ds ps
struct_shape x0 = search rules

pub scalars_shape : {q tag c n : ℕ} → HasKind q tag (Scalars c n) → IsScalarsShape q c n
scalars_shape x0 = search rules

pub pointers_shape : {q tag n : ℕ} → HasKind q tag (Pointers n) → IsPointersShape q n
pointers_shape x0 = search rules

pub structs_shape : {q tag n ds ps : ℕ} → HasKind q tag (Structs n ds ps) → IsStructsShape q tag (list_size q) n ds ps
structs_shape x0 = search rules

-- an object has one kind, where a list of structs has one tag
pub one_kind : (q tag tag' : ℕ) (x y : Kind) → (IsComposite q → tag ≡ tag') → HasKind q tag x → HasKind q tag' y → x ≡ y
one_kind q tag tag' x y same x6 x7 = search rules

-- the cost of an object beside its words, and the levels below it, depend on the tag of a list of structs alone
pub beside_same : (q tag tag' : ℕ) (x : Kind) → (IsComposite q → tag ≡ tag') → HasKind q tag x
    → (extra q tag ≡ extra q tag') × (levels_below q tag ≡ levels_below q tag')
beside_same q tag tag' x same x5 = search (rules, ne_eqb)

-- the words of an object
pub struct_words : {q tag ds ps : ℕ} → HasKind q tag (Struct ds ps) → extent q ≡ ds + ps
struct_words {q} {tag} {ds} {ps} h = search (rules, struct_shape)

pub scalars_words : {q tag c n : ℕ} → HasKind q tag (Scalars c n) → extent q ≡ list_words c n
scalars_words {q} {tag} {c} {n} h = search (rules, scalars_shape, ne_eqb)

pub pointers_words : {q tag n : ℕ} → HasKind q tag (Pointers n) → extent q ≡ n
pointers_words {q} {tag} {n} h = let x = pointers_shape h in rw (x.kind, x.code, x.count) refl

pub structs_words : {q tag n ds ps : ℕ} → HasKind q tag (Structs n ds ps) → extent q ≡ 1 + list_size q
structs_words {q} {tag} {n} {ds} {ps} h = let x = structs_shape h in rw (x.kind, x.code) refl

-- structs and lists of pointers cost nothing beside their words
pub struct_extra : {q tag ds ps : ℕ} → HasKind q tag (Struct ds ps) → extra q tag ≡ 0
struct_extra {q} {tag} {ds} {ps} h = let x = struct_shape h in rw x.kind refl

pub pointers_extra : {q tag n : ℕ} → HasKind q tag (Pointers n) → extra q tag ≡ 0
pointers_extra {q} {tag} {n} h = let x = pointers_shape h in rw (x.kind, x.code) refl

-- the levels below an object: those of the elements of a list of structs
pub struct_levels : {q tag ds ps : ℕ} → HasKind q tag (Struct ds ps) → levels_below q tag ≡ 0
struct_levels {q} {tag} {ds} {ps} h = let x = struct_shape h in rw x.kind refl

pub scalars_levels : {q tag c n : ℕ} → HasKind q tag (Scalars c n) → levels_below q tag ≡ 0
scalars_levels {q} {tag} {c} {n} h = search (rules, scalars_shape, ne_eqb)

pub pointers_levels : {q tag n : ℕ} → HasKind q tag (Pointers n) → levels_below q tag ≡ 0
pointers_levels {q} {tag} {n} h = let x = pointers_shape h in rw (x.kind, x.code) refl

pub structs_levels : {q tag n ds ps : ℕ} → HasKind q tag (Structs n ds ps) → levels_below q tag ≡ element_levels n
structs_levels {q} {tag} {n} {ds} {ps} h = let x = structs_shape h in rw (x.kind, x.code, x.count) refl
