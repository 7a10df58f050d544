-- A list of structs, whose word leads to the end, that is as a copy has it, or not.
use Rattle.cap_spec.proofs.Lemmas.{start_after, HasWord-segment, one_word, extent_structs}
use Rattle.cap_spec.proofs.ProofNames.{rules, List, ap, arith, false, if◌then◌else◌, length, pos, refl, subst, sym}
use Rattle.cap_spec.proofs.ProofNames.{true, ℕ, ◌*◌, ◌+◌, ◌-◌, ◌<◌, ◌==◌, ◌^◌, ◌≡◌, ◌≢◌, ◌≤◌, ◌⊎◌, eqb_tells, list_word}
use Rattle.cap_spec.proofs.ProofNames.{struct_word, HasWord, segment_of, code, data_size, kind, list_size, middle}
use Rattle.cap_spec.proofs.ProofNames.{pointer_size}
use Rattle.cap_ptr.specs.Reaching.{LeadsTo}
use Rattle.cap_ptr.specs.Shapes.{FindsObject}
use Rattle.cap_ptr.proofs.Objects.{found-structs}
use Rattle.cap_ptr.proofs.Pads.{object-lead, lies-near}
use Rattle.cap_canon.specs.InOrder.{HasOwn, IsNextInOrder, LeadsToEnd, MayStartAt, NoCopyHas}
use Rattle.cap_canon.specs.Trimming.{ListNeedsAll, ListNeedsLess}
use Rattle.cap_canon.proofs.InOrder.{list_by_fields, struct_by_fields, structs_own, structs_there}
use Rattle.cap_canon.proofs.NoCopies.{no_structs, no_surplus}
use Rattle.cap_ptr.specs.declared.shapes.Shape.TheVariants as shape

-- a near word leads to the end
pub leads_to_end : (m : List (List ℕ)) (w end word : ℕ) → MayStartAt m w end → HasWord m 0 w word → kind word ≡ 1 → w + 1 + middle word ≡ end
    → LeadsTo m 0 w 0 0 end word
leads_to_end m w end word s has list next =
    object-lead m 0 w 0 0 w word (pos end) (lies-near m 0 w word has (λ e. omega (arith, e, list))) (omega (arith, list))
    (λ z. (let e : kind word ≡ kind 0 = ap kind z in omega (arith, list, e)))
    (start_after word w end (middle word) refl (omega (arith, next, s.inside, s.few)) (sym next))

-- The list, with its tag.
module _ (m : List (List ℕ)) (w end word tag cost : ℕ) (l : LeadsToEnd m w word end cost) (list : (kind word ≡ 1) × (code word ≡ 7))
    (has_tag : HasWord m 0 end tag) where
  inside : end + 1 + list_size word ≤ length (segment_of m 0)
  inside = (structs_there m w word end cost l list.0 list.1).3

  fits : middle tag * (data_size tag + pointer_size tag) ≤ list_size word
  fits = search (rules, structs_there, one_word)

  tag_kind : kind tag ≡ 0
  tag_kind = search (rules, structs_there, one_word)

  abbrev n : ℕ
  n = middle tag

  abbrev d : ℕ
  d = data_size tag

  abbrev p : ℕ
  p = pointer_size tag

  abbrev empty : ℕ
  empty = if (d + p) == 0 then n else 0

  empty_few : (((d + p == 0) ≡ true) × (d + p ≡ 0)) ⊎ (((d + p == 0) ≡ false) × (d + p ≡ 0 → ⊥)) → empty ≤ n
  empty_few x1 = search rules

  object : FindsObject m 0 w 0 0 end word tag (1 + list_size word) (0 + 1 + list_size word + empty) (shape.Structs (list_size word) n d p)
  object = search (rules, extent_structs, found-structs, leads_to_end, HasWord-segment, inside, tag_kind, fits, empty_few, eqb_tells)

  pub structs_next : n * (d + p) ≡ list_size word → word < 2 ^ 64 → tag < 2 ^ 64 → ListNeedsAll m 0 (end + 1) d p n
      → IsNextInOrder m w end (end + 1 + list_size word)
  structs_next all small tag_small needs =
      let offset : middle word ≡ end - w - 1 = omega (arith, l.next) in
      let same : word ≡ list_word (end - w - 1) 7 (n * (d + p)) = search (rules, list_by_fields) in
      let tag_same : tag ≡ struct_word n d p = struct_by_fields tag tag_small tag_kind in
      let e : end + (1 + list_size word) ≡ end + 1 + list_size word = omega arith in
      let own = structs_own m w end 0 0 end word tag (1 + list_size word) (0 + 1 + list_size word + empty) (list_size word) n d p l.placed object
      (subst (λ z. HasWord m 0 w z) same l.has) (subst (λ z. HasWord m 0 end z) tag_same has_tag) needs.data_words needs.pointers in record {
        word = word;
        has = l.has;
        near = λ y. omega (arith, y, list.0);
        after = l.placed.after;
        inside = inside;
        k = 0;
        t = 0;
        b = end;
        q = word;
        tag = tag;
        finds = object.finds;
        tagged = λ _. has_tag;
        own = subst (λ i. HasOwn m w end i word tag 0 end) e own;
      }

  pub structs_differ : ListNeedsLess m 0 (end + 1) d p n → NoCopyHas m w end
  structs_differ less = search (rules, no_structs, object)

  pub structs_surplus : n * (d + p) ≢ list_size word → NoCopyHas m w end
  structs_surplus surplus = search (rules, no_surplus, object)
