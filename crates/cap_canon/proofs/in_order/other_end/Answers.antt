use Rattle.cap_spec.proofs.ProofNames.{false, sym, true, ◌∙◌, ◌≡◌, rules, List, arith, refl, subst, ℕ, ◌+◌, ◌-◌, ◌<◌}
use Rattle.cap_spec.proofs.ProofNames.{◌^◌, list_word, Finds, extra, near, HasWord, code, extent, kind, list_size}
use Rattle.cap_spec.proofs.ProofNames.{middle}
use Rattle.cap_canon.proofs.NoCopies.{other_differs}
use Rattle.cap_spec.proofs.Canonical.PointerFields.{start_before}
use Rattle.cap_spec.proofs.Lemmas.{extent_scalars, HasWord-segment}
use Rattle.cap_ptr.specs.Shapes.{FindsObject}
use Rattle.cap_ptr.proofs.Objects.{found-plain}
use Rattle.cap_canon.specs.InOrder.{HasOwn, IsNextInOrder, MayStartAt}
use Rattle.cap_canon.proofs.InOrder.{list_by_fields, struct_own, values_own}
use Rattle.cap_canon.proofs.InOrderLists.{leads_to_end}
use Rattle.cap_canon.proofs.Needed.{range_needed}
use Rattle.cap_canon.proofs.Rests.{values_full}
use Rattle.cap_canon.proofs.WholeObjects.{row_empty}
use Rattle.cap_ptr.specs.declared.shapes.Shape.TheVariants as shape
use Rattle.cap_canon.proofs.in_order.other_end.Goals as goal

-- A struct without words, and a list without bits, that are as a copy has them.
-- a struct without words
no_words_next : (m : List (List ℕ)) (w end : ℕ) → MayStartAt m w end → HasWord m 0 w (2 ^ 32 - 4) → IsNextInOrder m w end end
no_words_next m w end s has =
    let finds : Finds m 0 w 0 0 w (2 ^ 32 - 4) = record {
      leads = near (2 ^ 32 - 4) has (λ e. omega (arith, e)) (omega arith, (λ e. omega (arith, e)), refl, start_before w, refl) refl;
      inside = record { exists = HasWord-segment m 0 w (2 ^ 32 - 4) has; inside = omega (arith, s.after, s.inside); composite = λ c. absurd (omega (arith, c.0)) };
    } in
    let f : FindsObject m 0 w 0 0 w (2 ^ 32 - 4) 0 0 0 (shape.Struct 0 0) = search rules in
    let none = range_needed m 0 w 0 (omega (arith, s.after, s.inside)) in
    let own = struct_own m w end 0 0 w (2 ^ 32 - 4) 0 0 0 0 0 s f has (omega (arith, none)) (λ ts c d h. row_empty m 0 (w + 0) ts c d refl h) in
    let e : end + 0 ≡ end = omega arith in
    let same : HasOwn m w end end (2 ^ 32 - 4) 0 0 w = subst (λ i. HasOwn m w end i (2 ^ 32 - 4) 0 0 w) e own in
    search (rules, finds, same)

-- a list without bits
no_bits_next : (m : List (List ℕ)) (w end word : ℕ) → MayStartAt m w end → HasWord m 0 w word → word < 2 ^ 64 → kind word ≡ 1 → code word ≡ 0
    → w + 1 + middle word ≡ end → IsNextInOrder m w end end
no_bits_next m w end word s has small list c next =
    let n = list_size word in
    let plain : kind word ≡ 1 × (code word ≡ 7) → ⊥ = λ y. omega (arith, y.1, c) in
    let words : extent word ≡ 0 = extent_scalars word 0 list (sym c) (omega arith) ∙ omega arith in
    let costs : extra word 0 ≡ n = rw (list, c) refl in
    let f : FindsObject m 0 w 0 0 end word 0 0 (0 + 0 + n) (shape.Scalars 0 n) =
    found-plain m 0 w 0 0 end word (leads_to_end m w end word s has list next) (HasWord-segment m 0 w word has) n 0 (0 + 0 + n) (shape.Scalars 0 n)
    (omega arith) plain (sym words) (omega arith) (omega (arith, s.inside)) (sym costs) (omega arith) refl
    (record { kind = list; code = sym c; scalar = omega arith; count = refl }) in
    let offset : middle word ≡ end - w - 1 = omega (arith, next) in
    let same : word ≡ list_word (end - w - 1) 0 n = search (rules, list_by_fields) in
    let lie = values_full m 0 end 0 n 0 (omega arith) (omega arith) (omega (arith, s.inside)) (λ k lt. absurd (omega (arith, lt))) (omega arith) in
    let own = values_own m w end 0 0 end word 0 0 (0 + 0 + n) 0 n s f (subst (λ z. HasWord m 0 w z) same has) lie in
    let e : end + 0 ≡ end = omega arith in record {
      word = word;
      has = has;
      near = λ y. omega (arith, y, list);
      after = s.after;
      inside = s.inside;
      k = 0;
      t = 0;
      b = end;
      q = word;
      tag = 0;
      finds = f.finds;
      tagged = λ y. absurd (plain y);
      own = subst (λ i. HasOwn m w end i word 0 0 end) e own;
    }

pub returns-then-word-eq-NO_WORDS-clause-some : goal.returns-then-word-eq-NO_WORDS-clause-some
returns-then-word-eq-NO_WORDS-clause-some g c = search (rules, no_words_next)

pub returns-then-is_empty_list-clause-some : goal.returns-then-is_empty_list-clause-some
returns-then-is_empty_list-clause-some g c = search (rules, no_bits_next)

pub returns-clause-none : goal.returns-clause-none
returns-clause-none g c =
    let a = c.args in
    let m = g.M.Segments.segments a.message.now in
    other_differs m a.w a.end c.word-word.result c.word-word.ensures c.if-word-eq0.false c.if-word-eq-NO_WORDS.false
    (c.requires.other c.word-word.result c.word-word.ensures) (λ list none next.
    let h : false ≡ true = sym c.if-is_empty_list.false ∙ c.is_empty_list.ensures.1 (list, none, next) in absurd (cc h))
