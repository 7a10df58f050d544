-- The frames of objects: their words, and that they lie inside their segments.
use Rattle.cap_spec.proofs.Lemmas.{short_segment, extent_struct, extent_structs}
use Rattle.cap_spec.proofs.ProofNames.{Fits, List, [], arith, inl, inr, length, refl, suc, w32, zero, ℕ, ◌*◌, ◌+◌}
use Rattle.cap_spec.proofs.ProofNames.{◌-◌, ◌<◌, ◌≡◌, ◌≤◌, ◌⊎◌, element_levels, IsMessage, segment_of, rules}
use Rattle.cap_ptr.specs.Shapes.{FindsObject}
use Rattle.cap_ptr.specs.declared.shapes.Shape.TheVariants.{Struct, Structs}
use Rattle.cap_walk.specs.WalkNames.{object_places, PointerWord, RunIn, element_places, spots}

-- a struct's words lie inside its segment
pub struct_capacity : (m : List (List ℕ)) (s w : ℕ) {k t b : ℕ} (q tag : ℕ) {n c : ℕ} (d p : ℕ) → FindsObject m s w k t b q tag n c (Struct d p) → b + d + p ≤ length (segment_of m t)
struct_capacity m s w q tag d p f = search (rules, extent_struct)

-- elements that have no pointers, or aren't there, have no pointer words
no_pointers : (level t b ds n : ℕ) → element_places level t b ds 0 n ≡ []
no_pointers level t b ds zero = refl
no_pointers level t b ds (suc n) = no_pointers level t (b + ds + 0) ds n

pub structs_empty : (m : List (List ℕ)) (s w : ℕ) {k t b : ℕ} (q tag : ℕ) {n c : ℕ} (size : ℕ) {count : ℕ} (d : ℕ) {p : ℕ} (level : ℕ)
    → FindsObject m s w k t b q tag n c (Structs size count d p) → (count ≡ 0) ⊎ (p ≡ 0)
    → ◌≡◌ {A = List PointerWord} [] (object_places q tag t b level)
structs_empty m s w q tag size {count} d level f (inl e) = search rules
structs_empty m s w {t} {b} q tag size d level f (inr e) = search (rules, no_pointers)

-- the elements' words fit the list
pub structs_fit : (m : List (List ℕ)) (s w k t b q tag n c size count d p : ℕ)
    → FindsObject m s w k t b q tag n c (Structs size count d p) → b + 1 + count * (d + p) ≤ length (segment_of m t)
structs_fit m s w k t b q tag n c size count d p f = search (rules, extent_structs)

-- the run of a list of structs
pub structs_inside : (m : List (List ℕ)) (s w : ℕ) {k t b : ℕ} (q tag : ℕ) {n c : ℕ} (size : ℕ) {count d p at left more ds ps : ℕ} (level : ℕ)
    → FindsObject m s w k t b q tag n c (Structs size count d p)
    → at ≡ b + 1 + d → left ≡ p → more ≡ count - 1 → ds ≡ d → ps ≡ p → 0 < count → 0 < p
    → RunIn m record { segment = t; at = at; left = left; more = more; data_words = ds; pointers = ps; level = level }
structs_inside m s w q tag size {count = zero} level f e1 e2 e3 e4 e5 some each = absurd (omega arith)
structs_inside m s w {k} {t} {b} q tag {n} {c} size {count = suc count} {d} {p} {more} level f e1 e2 e3 e4 e5 some each =
    search (rules, structs_fit)

pub structs_places : {m : List (List ℕ)} {s w k t b q tag n c size count d p at left more ds ps : ℕ} (level : ℕ) {here : ℕ}
    → FindsObject m s w k t b q tag n c (Structs size count d p)
    → at ≡ b + 1 + d → left ≡ p → more ≡ count - 1 → ds ≡ d → ps ≡ p → 0 < count → here ≡ level + (element_levels 1 + 1)
    → spots record { segment = t; at = at; left = left; more = more; data_words = ds; pointers = ps; level = here } ≡ object_places q tag t b level
structs_places {count = zero} level f e1 e2 e3 e4 e5 some e6 = absurd (omega arith)
structs_places {q} {tag} {count = suc count} {d} {p} {more} level f e1 e2 e3 e4 e5 some e6 = search rules

-- an element's start is a number of 32 bits
pub start_fits : (m : List (List ℕ)) (s w : ℕ) {k t b : ℕ} (q tag : ℕ) {n c : ℕ} (size : ℕ) {count d : ℕ} (p at : ℕ) → IsMessage m
    → FindsObject m s w k t b q tag n c (Structs size count d p) → at ≡ d → (count ≡ 0 → ⊥)
    → Fits w32 (b + 1 + at)
start_fits m s w q tag size {count = zero} p at h f e some = absurd (some refl)
start_fits m s w {k} {t} {b} q tag {n} {c} size {count = suc count} {d} p at h f e some = search (rules, short_segment, structs_fit)
