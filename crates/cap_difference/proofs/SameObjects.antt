-- An object that doesn't differ is as a copy has it.
use Rattle.cap_spec.proofs.Lemmas.{extent_scalars, extent_struct, extent_structs, one_word}
use Rattle.cap_spec.proofs.ProofNames.{List, ap, arith, cases_eq, data_needed, eqb_tells, false, if◌then◌else◌, inl, inr, length, max}
use Rattle.cap_spec.proofs.ProofNames.{pos, refl, subst, sym, true, ℕ, ◌*◌, ◌+ℤ◌, ◌+◌, ◌-◌, ◌<◌, ◌==◌, ◌^◌, ◌∙◌, ◌≡◌, ◌≢◌, ◌≤◌, ◌⊎◌}
use Rattle.cap_spec.proofs.ProofNames.{HasWord, HasWordsAt, Leads, code, data_size, extent, kind, list_size, list_word, list_words, middle}
use Rattle.cap_spec.proofs.ProofNames.{pointer_size, scalar_words, segment_of, signed_offset_of, struct_word, to_null, values_of, words_from}
use Rattle.cap_spec.proofs.Lemmas.{leads-near}
use Rattle.cap_ptr.specs.Shapes.{FindsObject}
use Rattle.cap_ptr.specs.declared.shapes.Shape.{Shape}
use Rattle.cap_canon.specs.InOrder.{HasOwn, IsAsInCopy, IsNextInOrder, MayStartAt}
use Rattle.cap_canon.proofs.InOrder.{list_by_fields, pointers_own, struct_by_fields, struct_own, structs_inside, structs_own, values_own}
use Rattle.cap_difference.specs.ReadWords.{AreRead}
use Rattle.cap_difference.specs.Reasons.{EndInNulls, EndInZeros, ObjectDiffers, PointersDiffers, ScalarsDiffers, StructDiffers, StructsDiffers}
use Rattle.cap_difference.specs.Reasons.{bits_after, empty_list, empty_struct, pointers_place, struct_null, struct_place, struct_zero}
use Rattle.cap_difference.specs.Reasons.{structs_null, structs_place, structs_zero, surplus, values_place}
use Rattle.cap_difference.specs.declared.reason.DifferenceReason.{DifferenceReason}
use Rattle.cap_difference.specs.declared.reason.DifferenceReason.TheVariants.{Bits, DataZero, EmptyList, EmptyStruct, Place, PointerNull, Surplus}
use Rattle.cap_difference.proofs.NearWords.{FindsNear, finds_near, offset_to}
use Rattle.cap_difference.proofs.Needs.{data_all, elements_all, row_all}
use Rattle.cap_difference.proofs.ShapeKinds.{kind_at}
use Rattle.cap_difference.proofs.ValueWords.{values_same}
use Rattle.cap_ptr.specs.declared.shapes.Shape.TheVariants as shape

-- The word p at word w of segment 0 isn't far, and finds an object.
module _ (m : List (List ℕ)) (w end p k t b q tag words charge : ℕ) (s : MayStartAt m w end) (has : HasWord m 0 w p) (small : p < 2 ^ 64)
    (isnt : kind p ≢ 2) where
  -- An object with words is at the end of the copy, and its own words are those of the copy.
  next_of : (x : Shape) → FindsObject m 0 w k t b q tag words charge x → (words ≢ 0 → b ≡ end) → HasOwn m w end (end + words) q tag t b
      → IsNextInOrder m w end (end + words)
  next_of x f placed own = record {
    word = p;
    has = has;
    near = isnt;
    after = s.after;
    inside = inside;
    k = k;
    t = t;
    b = b;
    q = q;
    tag = tag;
    finds = f.finds;
    tagged = λ z. (f.object.tagged z).0;
    own = own;
  }
    where
      r : FindsNear 0 w k t b q p
      r = finds_near m 0 w k t b q p f.finds has isnt

      inside : end + words ≤ length (segment_of m 0)
      inside = elim (cases_eq words 0) [
        | inl z ↦ omega (arith, z, s.inside)
        | inr some ↦
            let at = placed some in
            let there : b + extent q ≤ length (segment_of m 0) = subst (λ v. b + extent q ≤ length (segment_of m v)) r.segment f.finds.inside.inside in
            omega (arith, at, there, f.object.words)
      ]

  -- the offset of its word
  offset : (x : Shape) → FindsObject m 0 w k t b q tag words charge x → b ≡ end → middle p ≡ end - w - 1
  offset x f at =
      let r = finds_near m 0 w k t b q p f.finds has isnt in
      offset_to p w end (subst (λ i. pos i ≡ pos (w + 1) +ℤ signed_offset_of p) at r.start) s.after

  -- the word of a list
  list_has : (x : Shape) (c n : ℕ) → FindsObject m 0 w k t b q tag words charge x → b ≡ end → kind q ≡ 1 → code q ≡ c → list_size q ≡ n
      → HasWord m 0 w (list_word (end - w - 1) c n)
  list_has x c n f at list code_is size_is =
      let r = finds_near m 0 w k t b q p f.finds has isnt in
      let list_p : kind p ≡ 1 = subst (λ u. kind u ≡ 1) r.shape list in
      let code_p : code p ≡ c = subst (λ u. code u ≡ c) r.shape code_is in
      let size_p : list_size p ≡ n = subst (λ u. list_size u ≡ n) r.shape size_is in
      let same : p ≡ list_word (end - w - 1) c n = list_by_fields p small list_p
      ∙ (ap (λ i. list_word i (code p) (list_size p)) (offset x f at)
      ∙ (ap (λ i. list_word (end - w - 1) i (list_size p)) code_p ∙ ap (λ i. list_word (end - w - 1) c i) size_p)) in
      subst (HasWord m 0 w) same has

  -- a struct
  struct_same : (d ps : ℕ) → FindsObject m 0 w k t b q tag words charge (shape.Struct d ps)
      → ((v : DifferenceReason) → ¬ StructDiffers m end p t b d ps v) → IsNextInOrder m w end (end + words)
  struct_same d ps f none =
      next_of (shape.Struct d ps) f (λ some. placed (λ z. some (omega (arith, z, own))))
      (struct_own m w end k t b q tag words charge d ps s f (subst (HasWord m 0 w) (same (eqb_tells (d + ps) 0)) has) data_is
      (row_all m t b d ps (λ h. none PointerNull (struct_null refl h))))
    where
      r : FindsNear 0 w k t b q p
      r = finds_near m 0 w k t b q p f.finds has isnt

      own : words ≡ d + ps
      own = let e = extent_struct q f.object.shape.kind in omega (arith, e, f.object.words, f.object.shape.data_words, f.object.shape.pointers)

      placed : d + ps ≢ 0 → b ≡ end
      placed some = elim (cases_eq b end) [ inl e ↦ e | inr n ↦ absurd (none Place (struct_place refl some n)) ]

      kind_p : kind p ≡ 0
      kind_p = subst (λ u. kind u ≡ 0) r.shape f.object.shape.kind

      size_p : data_size p ≡ d
      size_p = subst (λ u. data_size u ≡ d) r.shape (sym f.object.shape.data_words)

      pointers_p : pointer_size p ≡ ps
      pointers_p = subst (λ u. pointer_size u ≡ ps) r.shape (sym f.object.shape.pointers)

      empty : d + ps ≡ 0 → p ≡ 2 ^ 32 - 4
      empty z = elim (cases_eq p (2 ^ 32 - 4)) [ inl e ↦ e | inr n ↦ absurd (none EmptyStruct (empty_struct refl z n)) ]

      whole : d + ps ≢ 0 → p ≡ struct_word (end - w - 1) d ps
      whole some = struct_by_fields p small kind_p
          ∙ (ap (λ i. struct_word i (data_size p) (pointer_size p)) (offset (shape.Struct d ps) f (placed some))
          ∙ (ap (λ i. struct_word (end - w - 1) i (pointer_size p)) size_p ∙ ap (λ i. struct_word (end - w - 1) d i) pointers_p))

      same : (((d + ps == 0) ≡ true) × (d + ps ≡ 0)) ⊎ (((d + ps == 0) ≡ false) × (d + ps ≡ 0 → ⊥))
          → p ≡ (if (d + ps) == 0 then 2 ^ 32 - 4 else struct_word (end - w - 1) d ps)
      same (inl y) = rw y.0 (empty y.1)
      same (inr y) = rw y.0 (whole y.1)

      data_is : d ≡ max 0 (data_needed (words_from m t b d))
      data_is =
          let inside : b + 1 * (d + ps) ≤ length (segment_of m t) = omega (arith, f.finds.inside.inside, f.object.words, own) in
          let e : d ≡ max (data_needed (words_from m t b d)) 0 = data_all m t b 1 d ps inside (λ h. none DataZero (struct_zero refl h)) in
          omega (arith, e)

  -- a list of values
  values_same_as : (c n : ℕ) → FindsObject m 0 w k t b q tag words charge (shape.Scalars c n) → AreRead m t b words (shape.Scalars c n)
      → ((v : DifferenceReason) → ¬ ScalarsDiffers m end t b c n v) → IsNextInOrder m w end (end + words)
  values_same_as c n f read none =
      let r = finds_near m 0 w k t b q p f.finds has isnt in
      let is = f.object.shape in
      let placed : b ≡ end = elim (cases_eq b end) [ inl e ↦ e | inr n ↦ absurd (none Place (values_place refl n)) ] in
      let own : words ≡ list_words c n = f.object.words ∙ (extent_scalars q c is.kind is.code is.scalar ∙ ap (list_words c) (sym is.count)) in
      let inside : b + words ≤ length (segment_of m t) = omega (arith, f.finds.inside.inside, f.object.words) in
      let there = values_same m t b c n words is.scalar own inside read (λ h. none Bits (bits_after refl h)) in
      let lie : HasWordsAt (segment_of m 0) end (scalar_words c (values_of m 0 end c n)) =
      subst (λ i. HasWordsAt (segment_of m 0) i (scalar_words c (values_of m 0 i c n))) placed
      (subst (λ v. HasWordsAt (segment_of m v) b (scalar_words c (values_of m v b c n))) r.segment there) in
      next_of (shape.Scalars c n) f (λ _. placed)
      (values_own m w end k t b q tag words charge c n s f (list_has (shape.Scalars c n) c n f placed is.kind (sym is.code) (sym is.count)) lie)

  -- a list of pointers
  pointers_same : (n : ℕ) → FindsObject m 0 w k t b q tag words charge (shape.Pointers n)
      → ((v : DifferenceReason) → ¬ PointersDiffers end b v) → IsNextInOrder m w end (end + words)
  pointers_same n f none =
      let is = f.object.shape in
      let placed : b ≡ end = elim (cases_eq b end) [ inl e ↦ e | inr n ↦ absurd (none Place (pointers_place refl n)) ] in
      next_of (shape.Pointers n) f (λ _. placed)
      (pointers_own m w end k t b q tag words charge n s f (list_has (shape.Pointers n) 6 n f placed is.kind is.code (sym is.count)))

  -- a list of structs
  structs_same : (size n d ps : ℕ) → FindsObject m 0 w k t b q tag words charge (shape.Structs size n d ps)
      → AreRead m t b words (shape.Structs size n d ps)
      → ((v : DifferenceReason) → ¬ StructsDiffers m end t b n d ps (list_size q) v) → IsNextInOrder m w end (end + words)
  structs_same size n d ps f (x, has_x, is_word) none =
      let r = finds_near m 0 w k t b q p f.finds has isnt in
      let is = f.object.shape in
      let placed : b ≡ end = elim (cases_eq b end) [ inl e ↦ e | inr n ↦ absurd (none Place (structs_place refl n)) ] in
      let all : n * (d + ps) ≡ list_size q = elim (cases_eq (n * (d + ps)) (list_size q)) [
        | inl e ↦ e
        | inr over ↦ absurd (none Surplus (surplus refl over))
      ] in
      let tagged = f.object.tagged (is.kind, is.code) in
      let tag_small : tag < 2 ^ 64 = subst (λ u. u < 2 ^ 64) (one_word m t b x tag has_x tagged.0) is_word in
      let tag_same : tag ≡ struct_word n d ps = struct_by_fields tag tag_small tagged.1.0
      ∙ (ap (λ i. struct_word i (data_size tag) (pointer_size tag)) (sym is.count)
      ∙ (ap (λ i. struct_word n i (pointer_size tag)) (sym is.data_words) ∙ ap (λ i. struct_word n d i) (sym is.pointers))) in
      let has_tag : HasWord m 0 end (struct_word n d ps) =
      subst (HasWord m 0 end) tag_same (subst (λ i. HasWord m 0 i tag) placed (subst (λ v. HasWord m v b tag) r.segment tagged.0)) in
      let inside = (structs_inside m w k t b q tag words charge size n d ps f).3 in
      next_of (shape.Structs size n d ps) f (λ _. placed)
      (structs_own m w end k t b q tag words charge size n d ps s f
      (list_has (shape.Structs size n d ps) 7 (n * (d + ps)) f placed is.kind is.code (sym all)) has_tag
      (data_all m t (b + 1) n d ps inside (zeros (cases_eq n 0))) (elements_all m t (b + 1) n d ps (nulls (cases_eq n 0))))
    where
      zeros : (n ≡ 0) ⊎ (n ≡ 0 → ⊥) → EndInZeros m t (b + 1) n d ps → ⊥
      zeros (inl z) h = none EmptyList (empty_list refl z (omega (arith, h.some)))
      zeros (inr some) h = none DataZero (structs_zero refl some h)

      nulls : (n ≡ 0) ⊎ (n ≡ 0 → ⊥) → EndInNulls m t (b + 1) n d ps → ⊥
      nulls (inl z) h = none EmptyList (empty_list refl z (omega (arith, h.some)))
      nulls (inr some) h = none PointerNull (structs_null refl some h)

  object_same : (x : Shape) → FindsObject m 0 w k t b q tag words charge x → AreRead m t b words x
      → ((v : DifferenceReason) → ¬ ObjectDiffers m end p t b q (kind_at x) v) → IsNextInOrder m w end (end + words)
  object_same (shape.Struct d ps) f read none = struct_same d ps f none
  object_same (shape.Scalars c n) f read none = values_same_as c n f read none
  object_same (shape.Pointers n) f read none = pointers_same n f none
  object_same (shape.Structs size n d ps) f read none = structs_same size n d ps f read none

-- an object without words has none to read
pub none_read : (m : List (List ℕ)) (s w k t b q tag words charge : ℕ) (x : Shape) → FindsObject m s w k t b q tag words charge x → words ≡ 0
    → AreRead m t b words x
none_read m s w k t b q tag words charge (shape.Struct d ps) f z = tt
none_read m s w k t b q tag words charge (shape.Scalars c n) f z = λ i lt. absurd (omega (arith, lt, z))
none_read m s w k t b q tag words charge (shape.Pointers n) f z = tt
none_read m s w k t b q tag words charge (shape.Structs size n d ps) f z =
    let e = extent_structs q f.object.shape.kind f.object.shape.code in absurd (omega (arith, e, f.object.words, z))

-- The same of a word of any segment, which is that one.
pub object_in_copy : (m : List (List ℕ)) (s w end now p k t b q tag words charge : ℕ) (x : Shape) → HasWord m s w p → p < 2 ^ 64 → kind p ≢ 2
    → FindsObject m s w k t b q tag words charge x → AreRead m t b words x → ((v : DifferenceReason) → ¬ ObjectDiffers m end p t b q (kind_at x) v)
    → now ≡ end + words → s ≡ 0 → MayStartAt m w end → IsAsInCopy m w end now
object_in_copy m s w end now p k t b q tag words charge x has small isnt f read none e first start =
    let has' : HasWord m 0 w p = subst (λ v. HasWord m v w p) first has in
    let f' : FindsObject m 0 w k t b q tag words charge x = subst (λ v. FindsObject m v w k t b q tag words charge x) first f in
    inr (subst (IsNextInOrder m w end) (sym e) (object_same m w end p k t b q tag words charge start has' small isnt x f' read none))

-- A word that leads to null isn't far only if it is zero.
pub null_in_copy : (m : List (List ℕ)) (s w end k p : ℕ) → HasWord m s w p → kind p ≢ 2 → Leads m s w k to_null → s ≡ 0 → IsAsInCopy m w end end
null_in_copy m s w end k p has isnt lead first =
    let zero : p ≡ 0 = (leads-near m s w k to_null lead p has isnt).1 in
    inl (subst (λ v. HasWord m v w 0) first (subst (HasWord m s w) zero has), refl)
