-- What is at a spot is the node of the tree there.
use Rattle.cap_spec.specs.Showing.{own_cap, own_pointers, own_scalars, own_struct, own_structs}
use Rattle.cap_spec.specs.declared.Kind.{Kind}
use Rattle.cap_spec.specs.declared.Kind.TheVariants.{Cap, Null, Pointers, Scalars, Struct, Structs}
use Rattle.cap_spec.proofs.Lemmas.{found_form, elements_depth, one_lead, pointers_shape, struct_shape, structs_shape}
use Rattle.cap_spec.proofs.Lemmas.{each_charged, length-places, one_found, HasForm, formed, number_list}
use Rattle.cap_spec.proofs.Lemmas.{number_struct}
use Rattle.cap_spec.proofs.Pointers.Shapes.{scalars_shape}
use Rattle.cap_spec.proofs.ProofNames.{List, refl, sym, ℕ, ◌≡◌, HasObject, own_at, rules, Denotes, FindsKind}
use Rattle.cap_spec.proofs.ProofNames.{values_of, words_from, Lead, Leads, to_cap, to_null, Spot, element, word}
use Rattle.cap_spec.proofs.ProofNames.{own_of, DenotesAt, Tree, scalars, struct}
use Rattle.cap_spec.proofs.Trees.OneTree.{form_of}

-- a tree has the form of what its word leads to
lead_form : (m : List (List ℕ)) (s w : ℕ) (x : Tree) (c d k : ℕ) (r : Lead) → Denotes m s w x c d → Leads m s w k r → HasForm x (form_of r)
lead_form m s w x c d k r h l = search (rules, formed, form_of, one_lead)

same_struct : (ws ws' : List ℕ) (n n' : ℕ) → ws ≡ ws' → n ≡ n' → own_struct ws n ≡ own_struct ws' n'
same_struct ws ws' n n' e f = rw (e, f) refl

cap_own : (m : List (List ℕ)) (s w : ℕ) (x : Tree) (c d k i : ℕ) → Denotes m s w x c d → Leads m s w k (to_cap i) → own_of x ≡ own_cap i
cap_own m s w x c d k i h l = search (rules, to_cap, one_lead, lead_form, scalars)

struct_own : (m : List (List ℕ)) (s w : ℕ) (x : Tree) (c d k t b q tag ds ps : ℕ) → Denotes m s w x c d
    → FindsKind m s w (Struct ds ps) k t b q tag → own_of x ≡ own_struct (words_from m t b ds) ps
struct_own m s w x c d k t b q tag ds ps h f =
    search (rules, one_found, each_charged, length-places, same_struct, found_form, scalars, struct_shape, number_struct)

scalars_own : (m : List (List ℕ)) (s w : ℕ) (x : Tree) (c d k t b q tag e n : ℕ) → Denotes m s w x c d
    → FindsKind m s w (Scalars e n) k t b q tag → own_of x ≡ own_scalars e (values_of m t b e n)
scalars_own m s w x c d k t b q tag e n h f =
    search (rules, one_found, scalars_shape, number_list, found_form)

pointers_own : (m : List (List ℕ)) (s w : ℕ) (x : Tree) (c d k t b q tag n : ℕ) → Denotes m s w x c d
    → FindsKind m s w (Pointers n) k t b q tag → own_of x ≡ own_pointers n
pointers_own m s w x c d k t b q tag n h f =
    search (rules, one_found, each_charged, length-places, found_form, scalars, pointers_shape, number_list)

structs_own : (m : List (List ℕ)) (s w : ℕ) (x : Tree) (c d k t b q tag n ds ps : ℕ) → Denotes m s w x c d
    → FindsKind m s w (Structs n ds ps) k t b q tag → own_of x ≡ own_structs n ds ps
structs_own m s w x c d k t b q tag n ds ps h f =
    search (rules, one_found, elements_depth, found_form, scalars, structs_shape, number_list)

-- What is at a spot is the node of the tree there.
pub lies_own : (m : List (List ℕ)) (a : Spot) (k : Kind) (t b n : ℕ) (x : Tree) → HasObject m a k t b n → DenotesAt m a x → own_at m k t b ≡ own_of x
lies_own m (word s w) Null t b n x f h = sym (search (rules, lead_form, scalars, to_null))
lies_own m (word s w) (Cap i) t b n x f h = sym (cap_own m s w x h.0 h.1 f.0 i h.2 f.1)
lies_own m (word s w) (Struct d p) t b n x (k, q, tag, f, e) h = sym (struct_own m s w x h.0 h.1 k t b q tag d p h.2 f)
lies_own m (word s w) (Scalars c y) t b n x (k, q, tag, f, e) h = sym (scalars_own m s w x h.0 h.1 k t b q tag c y h.2 f)
lies_own m (word s w) (Pointers y) t b n x (k, q, tag, f, e) h = sym (pointers_own m s w x h.0 h.1 k t b q tag y h.2 f)
lies_own m (word s w) (Structs y d p) t b n x (k, q, tag, f, e) h =
    sym (structs_own m s w x h.0 h.1 k t b q tag y d p h.2 f)
lies_own m (element t' b' ds ps) (Struct d p) t b n (struct ws ts) f h =
    search (rules, each_charged, length-places, same_struct)
lies_own m (element t' b' ds ps) (Struct d p) t b n x f h = absurd h
lies_own m (element t' b' ds ps) k t b n x f h = absurd f
