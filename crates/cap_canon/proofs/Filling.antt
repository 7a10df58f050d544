-- An object's own words, appended to a copy.
use Rattle.cap_spec.specs.Tree.{none}
use Rattle.cap_spec.proofs.Canonical.Placing.{lie_word}
use Rattle.cap_spec.proofs.Lemmas.{range_length, length-scalar_words}
use Rattle.cap_spec.proofs.ProofNames.{List, [], ap, append_assoc, arith, inl, inr, length, length-append, subst, suc}
use Rattle.cap_spec.proofs.ProofNames.{sym, zero, ℕ, ◌*◌, ◌++◌, ◌+◌, ◌<◌, ◌∙◌, ◌∷◌, ◌≡◌, ◌≤◌, get_or-append_right}
use Rattle.cap_spec.proofs.ProofNames.{get_or_append_left, length-map-range_with_len, slice_get_within, struct_word}
use Rattle.cap_spec.proofs.ProofNames.{values_of, words_from, segment_of, HasWordsAt, scalar_words, Tree, Trees, more}
use Rattle.cap_spec.proofs.ProofNames.{struct, structs, tree_count, rules}
use Rattle.cap_canon.specs.Filling.{Fills, IsDue, OwnAppended, elements_from, part_words, parts_words}
use Rattle.cap_canon.specs.Laying.{DataAt, Due, element_slots, own_size, slots}
use Rattle.cap_canon.specs.Objects.{AreElementsLeft, IsPointersObject, IsScalarsObject, IsStructObject, IsStructsObject}
use Rattle.cap_canon.specs.declared.objects.Part.{Part}
use Rattle.cap_canon.proofs.Ranges.{length-elements_from}

-- what is due in a part is due
pub due_left : (i : ℕ) (xs ys : List Due) → IsDue i xs → IsDue i (xs ++ ys)
due_left i [] ys d = absurd d
due_left i (x ∷ xs) ys (inl e) = inl e
due_left i (x ∷ xs) ys (inr d) = inr (due_left i xs ys d)

pub due_right : (i : ℕ) (xs ys : List Due) → IsDue i ys → IsDue i (xs ++ ys)
due_right i [] ys d = d
due_right i (x ∷ xs) ys d = inr (due_right i xs ys d)

-- two parts, one after the other
pub fills_join : (whole : List ℕ) (b c : ℕ) (xs ys : List ℕ) (due next : List Due) → c ≡ b + length xs → Fills whole b due xs → Fills whole c next ys
    → Fills whole b (due ++ next) (xs ++ ys)
fills_join whole b c xs ys due next e f g k lt = search (rules, due_left, get_or_append_left, due_right, get_or-append_right, length-append)

-- words that are there
pub fills_lie : (whole : List ℕ) (b : ℕ) (xs : List ℕ) → HasWordsAt whole b xs → Fills whole b [] xs
fills_lie whole b xs h k lt = inr (sym (lie_word whole b xs h k lt))

-- pointer words in a row, whatever they hold
slot_due : (b k : ℕ) (ts : Trees) → k < tree_count ts → IsDue (b + k) (slots b ts)
slot_due b k none lt = absurd (omega (arith, lt))
slot_due b zero (more t ts) lt = inl (omega arith)
slot_due b (suc k) (more t ts) lt = search (rules, slot_due (b + 1) k ts (omega (arith, lt)))

pub fills_slots : (whole : List ℕ) (b : ℕ) (ts : Trees) (xs : List ℕ) → length xs ≡ tree_count ts → Fills whole b (slots b ts) xs
fills_slots whole b ts xs e k lt = inl (slot_due b k ts (omega (arith, lt, e)))

-- elements in a row
elements_fill : (m : List (List ℕ)) (whole : List ℕ) (deep t b c ds ps d p : ℕ) (es : Trees) → d ≤ ds → p ≤ ps
    → b + tree_count es * (ds + ps) ≤ length (segment_of m t)
    → AreElementsLeft m deep t b ds ps d p es → DataAt whole c d p es → Fills whole c (element_slots d p c es) (elements_from m t b ds ps d p (tree_count es))
elements_fill m whole deep t b c ds ps d p (more (struct ws us) es) hd hp h a at k lt =
    let e : suc (tree_count es) * (ds + ps) ≡ ds + ps + tree_count es * (ds + ps) = omega arith in
    let x : length (words_from m t b d) ≡ d = range_length m t b d (omega (arith, hd, h, e)) in
    let y : length (words_from m t (b + ds) p) ≡ p = range_length m t (b + ds) p (omega (arith, hp, h, e)) in
    let l = length-append (words_from m t b d) (words_from m t (b + ds) p) in
    let own : Fills whole c [] (words_from m t b d) = fills_lie whole c (words_from m t b d) (subst (λ xs. HasWordsAt whole c xs) a.0 at.0) in
    let row : Fills whole (c + d) (slots (c + d) us) (words_from m t (b + ds) p) = fills_slots whole (c + d) us (words_from m t (b + ds) p) (y ∙ sym a.1) in
    fills_join whole c (c + d + p) (words_from m t b d ++ words_from m t (b + ds) p) (elements_from m t (b + ds + ps) ds ps d p (tree_count es))
    (slots (c + d) us) (element_slots d p (c + d + p) es)
    (omega (arith, x, y, l))
    (fills_join whole c (c + d) (words_from m t b d) (words_from m t (b + ds) p) [] (slots (c + d) us) (omega (arith, x)) own row)
    (elements_fill m whole deep t (b + ds + ps) (c + d + p) ds ps d p es hd hp (omega (arith, h, e)) a.3 at.1) k lt
elements_fill m whole deep t b c ds ps d p es hd hp h a at k lt = search rules

-- what is left of a struct
pub struct_appended : {m : List (List ℕ)} {deep s w : ℕ} {u : Tree} {x : Part} {old new : List ℕ} → IsStructObject m deep s w u x
    → new ≡ old ++ part_words m x → OwnAppended old new u
struct_appended {m = m} {x = x} {old = old} {new = new} h e =
    let y = range_length m x.segment x.start x.data_left (omega (arith, h.fewer, h.found.inside)) in
    let z = range_length m x.segment (x.start + x.data_words) x.pointers_left (omega (arith, h.fewer, h.found.inside)) in
    let l : length h.words ≡ x.data_left = ap length h.data_words ∙ y in
    let own : OwnAppended old new (struct h.words h.children) = record {
      words = part_words m x;
      appended = e;
      many = search (rules, length-append);
      fill = λ whole at.
          fills_join whole (length old) (length old + length h.words) _ _ [] (slots (length old + length h.words) h.children) (omega (arith, y, l))
          (fills_lie whole (length old) _ (subst (λ xs. HasWordsAt whole (length old) xs) h.data_words at))
          (fills_slots whole (length old + length h.words) h.children _ (z ∙ sym h.many));
    } in
    subst (λ (v : Tree). OwnAppended old new v) (sym h.tree) own

-- a list of values
pub scalars_size : {m : List (List ℕ)} {s w : ℕ} {u : Tree} {t b c n words : ℕ} → IsScalarsObject m s w u t b c n words → own_size u ≡ words
scalars_size h = search (rules, length-map-range_with_len)

pub scalars_appended : {m : List (List ℕ)} {s w : ℕ} {u : Tree} {t b c n words : ℕ} {old new : List ℕ} → IsScalarsObject m s w u t b c n words
    → new ≡ old ++ scalar_words c (values_of m t b c n) → OwnAppended old new u
scalars_appended h e = search (rules, length-scalar_words, fills_lie)

-- a list of pointers
pub pointers_appended : {m : List (List ℕ)} {deep s w : ℕ} {u : Tree} {t b n : ℕ} {old new : List ℕ} → IsPointersObject m deep s w u t b n
    → new ≡ old ++ words_from m t b n → OwnAppended old new u
pointers_appended h e = search (rules, range_length, fills_slots)

-- what is left of a list of structs
pub structs_appended : (m : List (List ℕ)) (deep s w : ℕ) (u : Tree) (n : ℕ) (x : Part) (old new : List ℕ) → IsStructsObject m deep s w u n x
    → new ≡ (old ++ struct_word n x.data_left x.pointers_left ∷ []) ++ parts_words m x n → OwnAppended old new u
structs_appended m deep s w u n x old new h e =
    let count = tree_count h.elements in
    let inside : x.start + count * (x.data_words + x.pointers) ≤ length (segment_of m x.segment) =
    omega (arith, h.start, h.found.inside, ap (λ k. k * (x.data_words + x.pointers)) h.many) in
    let l = length-elements_from m x.segment x.start x.data_words x.pointers x.data_left x.pointers_left count h.fewer.0 h.fewer.1 inside in
    let word = struct_word count x.data_left x.pointers_left ∷ [] in
    let own : OwnAppended old new (structs x.data_left x.pointers_left h.elements) = record {
      words = word ++ parts_words m x count;
      appended = subst (λ k. new ≡ (old ++ struct_word k x.data_left x.pointers_left ∷ []) ++ parts_words m x k) (sym h.many) e
          ∙ append_assoc old word (parts_words m x count);
      many = omega (arith, l);
      fill = λ whole at.
          let last = slice_get_within whole (length old) (struct_word count x.data_left x.pointers_left) at.0 in
          fills_join whole (length old) (length old + 1) word (parts_words m x count) []
          (element_slots x.data_left x.pointers_left (length old + 1) h.elements) (omega arith)
          (fills_lie whole (length old) word (at.0, omega (arith, last)))
          (elements_fill m whole deep x.segment x.start (length old + 1) x.data_words x.pointers x.data_left x.pointers_left h.elements
          h.fewer.0 h.fewer.1 inside h.below at.1);
    } in
    subst (λ (v : Tree). OwnAppended old new v) (sym h.tree) own
