-- Where steps lead from what was found at a spot.
use Rattle.cap_spec.specs.declared.Kind.TheVariants.{Pointers, Struct, Structs}
use Rattle.cap_spec.proofs.Lemmas.{structs_words}
use Rattle.cap_spec.proofs.Pointers.Shapes.{pointers_words}
use Rattle.cap_spec.proofs.ProofNames.{List, arith, length, mul-le-mul_right, subst, ℕ, ◌*◌, ◌+◌, ◌<◌, ◌≡◌, ◌≤◌}
use Rattle.cap_spec.proofs.ProofNames.{HasObject, segment_of, Spot, StepsTo, element, word, rules}
use Rattle.cap_spec.proofs.Trees.Charges.{elements_fit}
use Rattle.cap_vet.specs.VetNames.{Kind, Item, Ptr, IsFound, Found}

-- what is there, where its kind is known
as_kind : (m : List (List ℕ)) (a : Spot) (f : Found) (x : Kind) → IsFound m a f → f.kind ≡ x → HasObject m a x f.place.segment f.place.start f.place.words
as_kind m a f x h e = subst (λ u. HasObject m a u f.place.segment f.place.start f.place.words) e h.object

-- a struct's pointers
pub pointer_goes : (m : List (List ℕ)) (a : Spot) {f : Found} (d : ℕ) {p i x : ℕ} → IsFound m a f → f.kind ≡ Struct d p → i < p → x ≡ f.place.start + d + i
    → StepsTo m a (Ptr i) (word f.place.segment x)
pointer_goes m (word s w) {f} d {p} h e lt ex = search (rules, as_kind)
pointer_goes m (element t' b' ds ps) {f} d {p} {x} h e lt ex = search (rules, as_kind)

-- the entries of a list of pointers
pub entry_goes : (m : List (List ℕ)) (a : Spot) {f : Found} {n i x : ℕ} → IsFound m a f → f.kind ≡ Pointers n → i < n → x ≡ f.place.start + i
    → StepsTo m a (Item i) (word f.place.segment x)
entry_goes m (word s w) {f} {n} h e lt ex = search (rules, as_kind)
entry_goes m (element t' b' ds ps) {f} {n} h e lt ex = absurd (as_kind m (element t' b' ds ps) f (Pointers n) h e)

-- which lie inside their segment
pub entry_inside : (m : List (List ℕ)) (a : Spot) (f : Found) (n i : ℕ) → IsFound m a f → f.kind ≡ Pointers n → i < n
    → f.place.start + i + 1 ≤ length (segment_of m f.place.segment)
entry_inside m a f n i h e lt = search (rules, as_kind, pointers_words)

-- the elements of a list of structs
pub element_goes : (m : List (List ℕ)) (a : Spot) {f : Found} {n : ℕ} (d p : ℕ) {i : ℕ} → IsFound m a f → f.kind ≡ Structs n d p → i < n
    → StepsTo m a (Item i) (element f.place.segment (f.place.start + 1 + i * (d + p)) d p)
element_goes m (word s w) {f} {n} d p h e lt = search (rules, as_kind)
element_goes m (element t' b' ds ps) {f} {n} d p h e lt = absurd (as_kind m (element t' b' ds ps) f (Structs n d p) h e)

-- an element lies inside its segment
pub element_inside : (m : List (List ℕ)) (a : Spot) {f : Found} {n : ℕ} (d p : ℕ) {i : ℕ} → IsFound m a f → f.kind ≡ Structs n d p → i < n
    → f.place.start + 1 + i * (d + p) + d + p ≤ length (segment_of m f.place.segment)
element_inside m (word s w) {f} {n} d p {i} h e lt =
    let y = as_kind m (word s w) f (Structs n d p) h e in
    let some : (i + 1) * (d + p) ≤ n * (d + p) = mul-le-mul_right (d + p) (omega (arith, lt)) in
    search (rules, elements_fit, structs_words)
element_inside m (element t' b' ds ps) {f} {n} d p h e lt = absurd (as_kind m (element t' b' ds ps) f (Structs n d p) h e)

-- and so do all of them together
pub elements_inside : (m : List (List ℕ)) (a : Spot) (f : Found) (n d p : ℕ) → IsFound m a f → f.kind ≡ Structs n d p
    → f.place.start + 1 + n * (d + p) ≤ length (segment_of m f.place.segment)
elements_inside m a f n d p h e = search (rules, as_kind, elements_fit, structs_words)
