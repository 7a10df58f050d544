use Rattle.cap_spec.proofs.Lemmas.{range_length}
use Rattle.cap_spec.proofs.ProofNames.{List, ap, arith, if◌then◌else◌, length, length-map-range_with_len, list_size, mul-le, refl, rules}
use Rattle.cap_spec.proofs.ProofNames.{subst, ℕ, ◌*◌, ◌+◌, ◌-◌, ◌<◌, ◌==◌, ◌^◌, ◌∙◌, ◌≡◌, ◌≤◌, pointer_to, struct_word, Tree}
use Rattle.cap_canon.specs.CanonNames.{IsObject, Part}
use Rattle.cap_canon.specs.declared.objects.Object.TheVariants.{Struct, Structs}
use Rattle.cap_canon.proofs.words.pointer_word.Goals as goal

-- the word of a pointer to what is left of a struct
struct_left : (m : List (List ℕ)) (d s w k : ℕ) (u : Tree) (x : Part) → IsObject m d s w u (Struct x)
    → (if (x.data_left + x.pointers_left) == 0 then 2 ^ 32 - 4 else struct_word k x.data_left x.pointers_left) ≡ pointer_to k u
struct_left m d s w k u x (deeper, le, o) =
    let l = ap length o.data_words
    ∙ range_length m x.segment x.start x.data_left (omega (arith, o.found.inside, o.fewer)) in
    rw (o.tree, l, o.many) refl

-- What is left of a list of structs has fewer words than a list can have.
structs_few : (m : List (List ℕ)) (d s w : ℕ) (u : Tree) (n : ℕ) (x : Part) → IsObject m d s w u (Structs n x)
    → n * (x.data_left + x.pointers_left) < 2 ^ 29
structs_few m d s w u n x (deeper, le, o) =
    let few : list_size o.found.q < 2 ^ 29 = omega arith in
    let less : x.data_left + x.pointers_left ≤ x.data_words + x.pointers = omega (arith, o.fewer) in
    let all = mul-le n (x.data_left + x.pointers_left) n (x.data_words + x.pointers) (omega arith) less in
    omega (arith, few, all, o.found.fits)

pub overflow_mul-count : goal.overflow_mul-count
overflow_mul-count c =
    let (m, d, s, w, u, is) = c.requires.is in
    let few = structs_few m d s w u c.in-Structs.count c.in-Structs.part (subst (IsObject m d s w u) c.in-Structs.is is) in
    omega (arith, few)

pub list_pointer-requires-in-Structs : goal.list_pointer-requires-in-Structs
list_pointer-requires-in-Structs c =
    let (m, d, s, w, u, is) = c.requires.is in
    let few = structs_few m d s w u c.in-Structs.count c.in-Structs.part (subst (IsObject m d s w u) c.in-Structs.is is) in
    (c.requires.near, omega arith, few)

pub returns-in-Struct : goal.returns-in-Struct
returns-in-Struct c = λ m d s w u is. c.struct_pointer.ensures
    ∙ struct_left m d s w c.args.offset u c.in-Struct.part (subst (IsObject m d s w u) c.in-Struct.is is)

pub returns-in-Scalars : goal.returns-in-Scalars
returns-in-Scalars c = search (rules, length-map-range_with_len)
