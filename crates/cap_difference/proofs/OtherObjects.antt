-- An object that differs is none that a copy has.
use Rattle.cap_spec.proofs.Lemmas.{HasForm, extent_struct, found_form, leads-near, number_list, one_found}
use Rattle.cap_spec.proofs.ProofNames.{List, ap, arith, cases_eq, inl, inr, length, pos, refl, subst, sym, ℕ, ◌*◌, ◌+ℤ◌}
use Rattle.cap_spec.proofs.ProofNames.{◌+◌, ◌-◌, ◌<◌, ◌^◌, ◌∙◌, ◌≡◌, ◌≢◌, ◌≤◌, ◌⊎◌, Denotes, HasWord, HasWordsAt, Leads, Tree, cap, code}
use Rattle.cap_spec.proofs.ProofNames.{data_needed, max, words_from}
use Rattle.cap_spec.proofs.ProofNames.{data_size, extra, kind, list_size, middle, null, pointer_size, pointers, scalar_words, scalars, segment_of}
use Rattle.cap_spec.proofs.ProofNames.{signed_offset_of, struct, structs, to_cap, trim, values_of}
use Rattle.cap_ptr.specs.Shapes.{FindsObject}
use Rattle.cap_ptr.specs.declared.shapes.Shape.{Shape}
use Rattle.cap_canon.specs.InOrder.{Differs, NoCopyHas}
use Rattle.cap_canon.specs.Laying.{OwnAt}
use Rattle.cap_canon.specs.Trimming.{EndsFar, ListNeedsLess, NeedsLess, NeedsLessOfRow}
use Rattle.cap_canon.proofs.InOrder.{structs_inside}
use Rattle.cap_canon.proofs.NoCopies.{no_struct, no_structs, no_surplus, no_word}
use Rattle.cap_difference.specs.Reasons.{EndInNulls, EndInZeros, HasBitsAfter, ObjectDiffers, ScalarsDiffers, StructDiffers}
use Rattle.cap_difference.specs.Reasons.{StructsDiffers, bits_after, empty_list, empty_struct, pointers_place, struct_null, struct_place}
use Rattle.cap_difference.specs.Reasons.{struct_zero, structs_null, structs_place, structs_zero, surplus, values_place}
use Rattle.cap_difference.specs.declared.reason.DifferenceReason.{DifferenceReason}
use Rattle.cap_difference.proofs.NearWords.{FindsNear, finds_near, offset_to, start_at}
use Rattle.cap_difference.proofs.Needs.{elements_less, empty_less, row_less, zeros_less}
use Rattle.cap_difference.proofs.ShapeKinds.{kind_at, kind_found}
use Rattle.cap_difference.proofs.ValueWords.{bits_differ}
use Rattle.cap_ptr.specs.declared.shapes.Shape.TheVariants as shape

-- no copy has a far pointer
pub far_differs : (m : List (List ℕ)) (s w end p : ℕ) → HasWord m s w p → kind p ≡ 2 → s ≡ 0 → Differs m w end
far_differs m s w end p has far first =
    inr (no_word m w end p (subst (λ v. HasWord m v w p) first has) (λ e. omega (arith, e, far))
    (λ z. (let e : kind p ≡ kind 0 = ap kind z in omega (arith, e, far)))
    (λ z. (let e : kind p ≡ kind (2 ^ 32 - 4) = ap kind z in omega (arith, e, far)))
    (λ _. (λ e. absurd (omega (arith, e, far)), λ e. absurd (omega (arith, e, far)))) (λ e _ _. omega (arith, e, far)))

-- nor a capability
pub cap_differs : (m : List (List ℕ)) (s w end p k i : ℕ) → HasWord m s w p → kind p ≢ 2 → Leads m s w k (to_cap i) → s ≡ 0 → Differs m w end
cap_differs m s w end p k i has isnt lead first =
    inl (p, subst (λ v. HasWord m v w p) first has, (leads-near m s w k (to_cap i) lead p has isnt).1.0.0)

-- The word p at word w of segment 0 isn't far, and finds an object.
module _ (m : List (List ℕ)) (w end p k t b q tag words charge : ℕ) (has : HasWord m 0 w p) (isnt : kind p ≢ 2) where
  near : (x : Shape) → FindsObject m 0 w k t b q tag words charge x → FindsNear 0 w k t b q p
  near x f = finds_near m 0 w k t b q p f.finds has isnt

  -- one that isn't at the end
  apart : (x : Shape) → FindsObject m 0 w k t b q tag words charge x → b ≢ end → p ≢ 2 ^ 32 - 4 → NoCopyHas m w end
  apart x f away some y c d h lt small pointed own due laid =
      let r = near x f in
      no_word m w end p has (λ e. omega (arith, e, r.kind)) r.some some (λ next. absurd (away (start_at p w b end r.start next small)))
      (λ _ _ next. away (start_at p w b end r.start next small)) y c d h lt small pointed own due laid

  -- one at the end, by its place and its word
  moved : (x : Shape) → FindsObject m 0 w k t b q tag words charge x → b ≡ end → FindsObject m 0 w 0 0 end p tag words charge x
  moved x f at =
      let r = near x f in
      subst (λ i. FindsObject m 0 w i 0 end p tag words charge x) r.pads
      (subst (λ i. FindsObject m 0 w k i end p tag words charge x) r.segment
      (subst (λ i. FindsObject m 0 w k t i p tag words charge x) at (subst (λ i. FindsObject m 0 w k t b i tag words charge x) r.shape f)))

  next : (x : Shape) → FindsObject m 0 w k t b q tag words charge x → b ≡ end → w < end → w + 1 + middle p ≡ end
  next x f at lt =
      let r = near x f in
      let e = offset_to p w end (subst (λ i. pos i ≡ pos (w + 1) +ℤ signed_offset_of p) at r.start) lt in omega (arith, e, lt)

  -- the word of a list isn't that of a struct without words
  list_some : (x : Shape) → FindsObject m 0 w k t b q tag words charge x → kind q ≡ 1 → p ≢ 2 ^ 32 - 4
  list_some x f list z =
      let e : kind p ≡ kind (2 ^ 32 - 4) = ap kind z in
      let list_p : kind p ≡ 1 = subst (λ u. kind u ≡ 1) (near x f).shape list in omega (arith, e, list_p)

  -- a struct
  module _ (d ps : ℕ) (f : FindsObject m 0 w k t b q tag words charge (shape.Struct d ps)) where
    kind_p : kind p ≡ 0
    kind_p = subst (λ u. kind u ≡ 0) (near (shape.Struct d ps) f).shape f.object.shape.kind

    size_p : d ≡ data_size p
    size_p = subst (λ u. d ≡ data_size u) (near (shape.Struct d ps) f).shape f.object.shape.data_words

    pointers_p : ps ≡ pointer_size p
    pointers_p = subst (λ u. ps ≡ pointer_size u) (near (shape.Struct d ps) f).shape f.object.shape.pointers

    -- with words
    struct_some : d + ps ≢ 0 → p ≢ 2 ^ 32 - 4
    struct_some some z =
        let e : data_size p ≡ data_size (2 ^ 32 - 4) = ap data_size z in
        let e' : pointer_size p ≡ pointer_size (2 ^ 32 - 4) = ap pointer_size z in
        some (omega (arith, e, e', size_p, pointers_p))

    -- whose tag says nothing
    untagged : b ≡ end → FindsObject m 0 w 0 0 end p 0 words charge (shape.Struct (data_size p) (pointer_size p))
    untagged at =
        let g = moved (shape.Struct d ps) f at in
        let none : extra p tag ≡ extra p 0 = rw kind_p refl in
        record {
          finds = g.finds;
          object = record {
            tagged = λ z. absurd (omega (arith, kind_p, z.0));
            words = g.object.words;
            charge = omega (arith, g.object.charge, none);
            small = g.object.small;
            shape = record { kind = kind_p; data_words = refl; pointers = refl };
          };
        }

    less_differs : b ≡ end → NeedsLess m 0 end (data_size p) (pointer_size p) → NoCopyHas m w end
    less_differs at less y c deep h lt small pointed own due laid =
        no_struct m w end p words charge (untagged at) has (next (shape.Struct d ps) f at lt) less y c deep h lt small pointed own due laid

    inside : b + 1 * (d + ps) ≤ length (segment_of m t)
    inside =
        let e = extent_struct q f.object.shape.kind in
        omega (arith, f.finds.inside.inside, e, f.object.shape.data_words, f.object.shape.pointers)

    zeros_differ : EndInZeros m t b 1 d ps → b ≡ end → NoCopyHas m w end
    zeros_differ h at =
        let less : d ≢ max (data_needed (words_from m t b d)) 0 = zeros_less m t b 1 d ps inside h in
        let here : d ≢ max (data_needed (words_from m 0 end d)) 0 =
        subst (λ i. d ≢ max (data_needed (words_from m 0 i d)) 0) at
        (subst (λ v. d ≢ max (data_needed (words_from m v b d)) 0) (near (shape.Struct d ps) f).segment less) in
        let own : d ≢ data_needed (words_from m 0 end d) = λ e. here (omega (arith, e)) in
        less_differs at (inl (subst (λ u. u ≢ data_needed (words_from m 0 end u)) size_p own))

    nulls_differ : EndInNulls m t b 1 d ps → b ≡ end → NoCopyHas m w end
    nulls_differ h at =
        let less : NeedsLessOfRow m t (b + d) ps ⊎ EndsFar m t (b + d) ps = row_less m t b d ps h in
        let here : NeedsLessOfRow m 0 (end + d) ps ⊎ EndsFar m 0 (end + d) ps =
        subst (λ i. NeedsLessOfRow m 0 (i + d) ps ⊎ EndsFar m 0 (i + d) ps) at
        (subst (λ v. NeedsLessOfRow m v (b + d) ps ⊎ EndsFar m v (b + d) ps) (near (shape.Struct d ps) f).segment less) in
        less_differs at (inr (subst (λ u. NeedsLessOfRow m 0 (end + data_size p) u ⊎ EndsFar m 0 (end + data_size p) u) pointers_p
        (subst (λ u. NeedsLessOfRow m 0 (end + u) ps ⊎ EndsFar m 0 (end + u) ps) size_p here)))

    struct_differs : (v : DifferenceReason) → StructDiffers m end p t b d ps v → NoCopyHas m w end
    struct_differs v (empty_struct e none other) =
        let r = near (shape.Struct d ps) f in
        no_word m w end p has (λ e. omega (arith, e, kind_p)) r.some other
        (λ _. (λ _. omega (arith, none, size_p, pointers_p), λ e. absurd (omega (arith, e, kind_p)))) (λ e _ _. omega (arith, e, kind_p))
    struct_differs v (struct_place e some away) = apart (shape.Struct d ps) f away (struct_some some)
    struct_differs v (struct_zero e h) = elim (cases_eq b end) [
      | inl at ↦ zeros_differ h at
      | inr away ↦ apart (shape.Struct d ps) f away (struct_some (omega (arith, h.some)))
    ]
    struct_differs v (struct_null e h) = elim (cases_eq b end) [
      | inl at ↦ nulls_differ h at
      | inr away ↦ apart (shape.Struct d ps) f away (struct_some (omega (arith, h.some)))
    ]

  -- a list of values
  module _ (c n : ℕ) (f : FindsObject m 0 w k t b q tag words charge (shape.Scalars c n)) where
    -- the words of the copy
    values_there : (y : Tree) (cost d : ℕ) → Denotes m 0 w y cost d → HasForm y (3 + code q) → OwnAt (segment_of m 0) end (trim y)
        → HasWordsAt (segment_of m 0) end (scalar_words c (values_of m t b c n))
    values_there null cost d h g own = absurd (omega (arith, g))
    values_there (cap i) cost d h g own = absurd (omega (arith, g))
    values_there (struct ws ts) cost d h g own = absurd (omega (arith, g))
    values_there (scalars e vs) cost d (k', t', b', q', tag', n', found, same) g own =
        let o = one_found found.object (kind_found (shape.Scalars c n) f) in
        let code_is : e ≡ c = cc o.kind in
        let count_is : n' ≡ n = cc o.kind in
        let moved : vs ≡ values_of m t b c n = same ∙ rw (o.segment, o.start, code_is, count_is) refl in
        subst (λ (us : List ℕ). HasWordsAt (segment_of m 0) end (scalar_words c us)) moved
        (subst (λ i. HasWordsAt (segment_of m 0) end (scalar_words i vs)) code_is own)
    values_there (pointers ts) cost d h g own = absurd (omega (arith, g, f.object.shape.code, f.object.shape.scalar))
    values_there (structs y z es) cost d h g own = absurd (omega (arith, g, f.object.shape.code, f.object.shape.scalar))

    bits_differ_here : HasBitsAfter m t b c n → b ≡ end → NoCopyHas m w end
    bits_differ_here bits at y cost d h lt small pointed own due laid =
        let form : HasForm y (3 + code q) =
        subst (HasForm y) (number_list (kind q) (code q) f.object.shape.kind) (found_form m 0 w y cost d k t b q h f.finds) in
        let there = values_there y cost d h form own in
        let here : HasWordsAt (segment_of m t) b (scalar_words c (values_of m t b c n)) =
        subst (λ v. HasWordsAt (segment_of m v) b (scalar_words c (values_of m t b c n))) (sym (near (shape.Scalars c n) f).segment)
        (subst (λ i. HasWordsAt (segment_of m 0) i (scalar_words c (values_of m t b c n))) (sym at) there) in
        bits_differ m t b c n f.object.shape.scalar here bits

    values_differ : (v : DifferenceReason) → ScalarsDiffers m end t b c n v → NoCopyHas m w end
    values_differ v (values_place e away) = apart (shape.Scalars c n) f away (list_some (shape.Scalars c n) f f.object.shape.kind)
    values_differ v (bits_after e bits) = elim (cases_eq b end) [
      | inl at ↦ bits_differ_here bits at
      | inr away ↦ apart (shape.Scalars c n) f away (list_some (shape.Scalars c n) f f.object.shape.kind)
    ]

  -- a list of structs
  module _ (size n d ps : ℕ) (f : FindsObject m 0 w k t b q tag words charge (shape.Structs size n d ps)) where
    away_differs : b ≢ end → NoCopyHas m w end
    away_differs away = apart (shape.Structs size n d ps) f away (list_some (shape.Structs size n d ps) f f.object.shape.kind)

    elements_inside : b + 1 + n * (d + ps) ≤ length (segment_of m t)
    elements_inside = (structs_inside m w k t b q tag words charge size n d ps f).3

    sizes_differ : ListNeedsLess m t (b + 1) d ps n → NoCopyHas m w end
    sizes_differ less = elim (cases_eq b end) [
      | inl at ↦
          let here : ListNeedsLess m 0 (end + 1) d ps n = subst (λ i. ListNeedsLess m 0 (i + 1) d ps n) at
          (subst (λ v. ListNeedsLess m v (b + 1) d ps n) (near (shape.Structs size n d ps) f).segment less) in
          no_structs m w end p tag words charge size n d ps (moved (shape.Structs size n d ps) f at) here
      | inr away ↦ away_differs away
    ]

    surplus_differs : n * (d + ps) ≢ list_size q → NoCopyHas m w end
    surplus_differs over = elim (cases_eq b end) [
      | inl at ↦
          no_surplus m w end p tag words charge size n d ps (moved (shape.Structs size n d ps) f at) has
          (subst (λ u. n * (d + ps) ≢ list_size u) (near (shape.Structs size n d ps) f).shape over)
      | inr away ↦ away_differs away
    ]

    structs_differ : (v : DifferenceReason) → StructsDiffers m end t b n d ps (list_size q) v → NoCopyHas m w end
    structs_differ v (structs_place e away) = away_differs away
    structs_differ v (empty_list e none some) = sizes_differ (empty_less m t (b + 1) n d ps none some)
    structs_differ v (surplus e over) = surplus_differs over
    structs_differ v (structs_zero e some h) = sizes_differ (inl (zeros_less m t (b + 1) n d ps elements_inside h))
    structs_differ v (structs_null e some h) = sizes_differ (inr (elements_less m t (b + 1) n d ps h))

  object_differs : (x : Shape) (v : DifferenceReason) → FindsObject m 0 w k t b q tag words charge x → ObjectDiffers m end p t b q (kind_at x) v
      → NoCopyHas m w end
  object_differs (shape.Struct d ps) v f h = struct_differs d ps f v h
  object_differs (shape.Scalars c n) v f h = values_differ c n f v h
  object_differs (shape.Pointers n) v f (pointers_place e away) = apart (shape.Pointers n) f away (list_some (shape.Pointers n) f f.object.shape.kind)
  object_differs (shape.Structs size n d ps) v f h = structs_differ size n d ps f v h

-- The same of a word of any segment, which is that one.
pub object_not_copied : (m : List (List ℕ)) (s w end p k t b q tag words charge : ℕ) (x : Shape) (v : DifferenceReason) → HasWord m s w p → kind p ≢ 2
    → FindsObject m s w k t b q tag words charge x → ObjectDiffers m end p t b q (kind_at x) v → s ≡ 0 → Differs m w end
object_not_copied m s w end p k t b q tag words charge x v has isnt f h first =
    let has' : HasWord m 0 w p = subst (λ v. HasWord m v w p) first has in
    let f' : FindsObject m 0 w k t b q tag words charge x = subst (λ v. FindsObject m v w k t b q tag words charge x) first f in
    inr (object_differs m w end p k t b q tag words charge has' isnt x v f' h)
