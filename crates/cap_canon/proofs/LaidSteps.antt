-- One object more of a layout.
use Rattle.cap_spec.proofs.Canonical.ElementPlaces.{children_begin, element_end, rest_begin}
use Rattle.cap_spec.proofs.Canonical.Sizes.{length-contents, length-element_words, length-pointer_words}
use Rattle.cap_spec.proofs.Lemmas.{lie_back, lie_front, FitElements, Fits, lie_inside, length-content}
use Rattle.cap_spec.proofs.ProofNames.{rules, List, Some, ap, append_assoc, arith, length, refl, slice_get, subst, sym}
use Rattle.cap_spec.proofs.ProofNames.{ℕ, ◌*◌, ◌++◌, ◌+◌, ◌↔◌, ◌∷◌, ◌≡◌, contents, element_contents, element_sizes}
use Rattle.cap_spec.proofs.ProofNames.{element_words, pointer_words, size, sizes, struct_word, HasWordsAt, Tree, Trees}
use Rattle.cap_spec.proofs.ProofNames.{cap, more, null, pointers, scalars, struct, structs, tree_count}
use Rattle.cap_canon.specs.Laying.{DataAt, Due, IsPointed, Laid, OwnAt, below, element_slots, own_size, slots}
use Rattle.std.proofs.Common.{[], ◌≤◌}
use Rattle.cap_spec.specs.Canonical.{content}
use Rattle.cap_spec.specs.Tree.{none}
use Rattle.cap_spec.proofs.Canonical.TreeMeasures.{FitEach}

-- The words of a layout, seen from the pointer words that lead to what isn't laid yet.
-- parts that are one after the other are joined
pub lie_join : (words : List ℕ) (b c : ℕ) (xs ys : List ℕ) → c ≡ b + length xs → HasWordsAt words b xs → HasWordsAt words c ys → HasWordsAt words b (xs ++ ys)
lie_join words b c [] ys e h k = let i : c ≡ b = omega arith in subst (λ n. HasWordsAt words n ys) i k
lie_join words b c (x ∷ xs) ys e h k = (h.0, lie_join words (b + 1) c xs ys (omega arith) h.1 k)

-- what is laid lies inside
pub laid_inside : (words : List ℕ) (end : ℕ) (due : List Due) → Laid words end due → end ≤ length words
laid_inside words end [] h = omega (arith, h)
laid_inside words end (x ∷ due) (offset, e, p, s, rest) = let l = lie_inside words end (content x.tree) s in omega (arith, l)

-- pointer words in a row, and the contents after them
pub row_due : (words : List ℕ) (a c after : ℕ) (ts : Trees) (due : List Due) → c ≡ a + tree_count ts + after → FitEach ts
    → HasWordsAt words a (pointer_words after ts) → HasWordsAt words c (contents ts) → Laid words (c + sizes ts) due → Laid words c (slots a ts ++ due)
row_due words a c after none due e f sp sc l = let i : c + 0 ≡ c = omega arith in subst (λ n. Laid words n due) i l
row_due words a c after (more t ts) due e f sp sc l =
    let i : c + sizes (more t ts) ≡ c + size t + sizes ts = omega arith in
    let rest = row_due words (a + 1) (c + size t) (after + size t) ts due (omega (arith, e)) f.1 sp.1
    (lie_back words c (c + size t) (content t) (contents ts) (ap (λ n. c + n) (sym (length-content t f.0))) sc)
    (subst (λ n. Laid words n due) i l) in
    search (rules, lie_front, lie_back, length-content)

-- the parts of a row that is laid
pub record RowLaid (words : List ℕ) (a c after : ℕ) (ts : Trees) (due : List Due) : Type 0 where
  pub row : HasWordsAt words a (pointer_words after ts)
  pub below : HasWordsAt words c (contents ts)
  pub rest : Laid words (c + sizes ts) due

pub due_row : (words : List ℕ) (a c after : ℕ) (ts : Trees) (due : List Due) → c ≡ a + tree_count ts + after → FitEach ts
    → Laid words c (slots a ts ++ due) → RowLaid words a c after ts due
due_row words a c after none due e f l = search (rules, laid_inside)
due_row words a c after (more t ts) due e f (offset, eo, p, s, l) =
    let r = due_row words (a + 1) (c + size t) (after + size t) ts due (omega (arith, e)) f.1 l in search (rules, lie_join, length-content)

-- elements in a row, and the contents after them
pub elements_due : (words : List ℕ) (d p b c after : ℕ) (es : Trees) (due : List Due) → c ≡ b + tree_count es * (d + p) + after → FitElements d p es
    → HasWordsAt words b (element_words (d + p) after es) → HasWordsAt words c (element_contents es) → Laid words (c + element_sizes es) due
    → DataAt words b d p es × Laid words c (element_slots d p b es ++ due)
elements_due words d p b c after (more (struct ws ts) es) due e f sp sc l =
    let pw = pointer_words (tree_count es * (d + p) + after) ts in
    let ew = element_words (d + p) (after + sizes ts) es in
    let front : HasWordsAt words b (ws ++ pw) = lie_front words b (ws ++ pw) ew sp in
    let own : HasWordsAt words b ws = lie_front words b ws pw front in
    let below : HasWordsAt words (b + d) pw = lie_back words b (b + d) ws pw (ap (λ n. b + n) (sym f.0)) front in
    let i : c + element_sizes (more (struct ws ts) es) ≡ c + sizes ts + element_sizes es = omega arith in
    let rest = elements_due words d p (b + d + p) (c + sizes ts)
    (after + sizes ts) es due (rest_begin c b (tree_count es) d p after (sizes ts) e) f.3 (lie_back words b (b + d + p) (ws ++ pw) ew
    (element_end b d p ws pw (tree_count ts) f.0 (length-pointer_words (tree_count es * (d + p) + after) ts) f.1) sp)
    (lie_back words c (c + sizes ts) (contents ts) (element_contents es) (ap (λ n. c + n) (sym (length-contents ts f.2))) sc)
    (subst (λ n. Laid words n due) i l) in
    search (rules, row_due, children_begin, lie_front, append_assoc)
elements_due words d p b c after es due e f sp sc l = search rules

-- the parts of elements that are laid
pub record ElementsLaid (words : List ℕ) (each b c after : ℕ) (es : Trees) (due : List Due) : Type 0 where
  pub row : HasWordsAt words b (element_words each after es)
  pub below : HasWordsAt words c (element_contents es)
  pub rest : Laid words (c + element_sizes es) due

pub due_elements : (words : List ℕ) (d p b c after : ℕ) (es : Trees) (due : List Due) → c ≡ b + tree_count es * (d + p) + after → FitElements d p es
    → DataAt words b d p es → Laid words c (element_slots d p b es ++ due) → ElementsLaid words (d + p) b c after es due
due_elements words d p b c after (more (struct ws ts) es) due e f da l =
    let pw = pointer_words (tree_count es * (d + p) + after) ts in
    let ew = element_words (d + p) (after + sizes ts) es in
    let first = due_row words (b + d) c (tree_count es * (d + p) + after) ts (element_slots d p (b + d + p) es ++ due)
    (children_begin c b (tree_count es) d p (tree_count ts) after e f.1) f.2
    (subst (λ xs. Laid words c xs) (append_assoc (slots (b + d) ts) (element_slots d p (b + d + p) es) due) l) in
    let r = due_elements words d p (b + d + p) (c + sizes ts) (after + sizes ts) es due
    (rest_begin c b (tree_count es) d p after (sizes ts) e) f.3 da.1 first.rest in
    let i : c + sizes ts + element_sizes es ≡ c + element_sizes (more (struct ws ts) es) = omega arith in
    let own : HasWordsAt words b (ws ++ pw) = lie_join words b (b + d) ws pw (ap (λ n. b + n) (sym f.0)) da.0 first.row in record {
      row = search (rules, lie_join, element_end, length-pointer_words);
      below = lie_join words c (c + sizes ts) (contents ts) (element_contents es) (ap (λ n. c + n) (sym (length-contents ts f.2))) first.below r.below;
      rest = subst (λ n. Laid words n due) i r.rest;
    }
due_elements words d p b c after es due e f da l = search (rules, laid_inside)

-- A struct: its pointer, its data words, and then its children are due.
pub struct_laid : (words : List ℕ) (end slot : ℕ) (ws : List ℕ) (ts : Trees) (due : List Due) → Fits (struct ws ts)
    → Laid words end (record { slot = slot; tree = struct ws ts } ∷ due)
    ↔ (IsPointed words end slot (struct ws ts) × HasWordsAt words end ws × Laid words (end + length ws + tree_count ts) (slots (end + length ws) ts ++ due))
struct_laid words end slot ws ts due f = (to, from)
  where
    to : Laid words end (record { slot = slot; tree = struct ws ts } ∷ due)
        → IsPointed words end slot (struct ws ts) × HasWordsAt words end ws × Laid words (end + length ws + tree_count ts) (slots (end + length ws) ts ++ due)
    to (offset, e, p, s, l) =
        let pw = pointer_words 0 ts in
        let front : HasWordsAt words end (ws ++ pw) = lie_front words end (ws ++ pw) (contents ts) s in
        let i : end + size (struct ws ts) ≡ end + length ws + tree_count ts + sizes ts = omega arith in (
          (offset, e, p),
          lie_front words end ws pw front,
          row_due words (end + length ws) (end + length ws + tree_count ts) 0 ts due (omega arith) f.2 (lie_back words end (end + length ws) ws pw refl front)
              (lie_back words end (end + length ws + tree_count ts) (ws ++ pw) (contents ts)
              (element_end end (length ws) (tree_count ts) ws pw (tree_count ts) refl (length-pointer_words 0 ts) refl) s)
              (subst (λ n. Laid words n due) i l),
        )

    from : IsPointed words end slot (struct ws ts) × HasWordsAt words end ws × Laid words (end + length ws + tree_count ts) (slots (end + length ws) ts ++ due)
        → Laid words end (record { slot = slot; tree = struct ws ts } ∷ due)
    from ((offset, e, p), own, l) =
        let r = due_row _ _ _ 0 ts due (omega arith) f.2 l in
        let i : end + length ws + tree_count ts + sizes ts ≡ end + size (struct ws ts) = omega arith in (
          offset,
          e,
          p,
          lie_join words end _ _ _
              (element_end end _ _ ws _ _ refl (length-pointer_words _ _) refl)
              (lie_join words end _ ws _ refl own r.row) r.below,
          subst (λ n. Laid words n due) i r.rest,
        )

structs_rest : (end n s : ℕ) → end + 1 + n + s ≡ end + (1 + n + s)
structs_rest end n s = omega arith

structs_after : (end n x : ℕ) → x ≡ n → end + 1 + n ≡ end + 1 + x
structs_after end n x e = omega arith

no_more : (x : ℕ) → x ≡ x + 0
no_more x = omega arith

-- A list of structs: its pointer, its tag, its data words, and then the children of its elements are due.
pub structs_laid : (words : List ℕ) (end slot d p : ℕ) (es : Trees) (due : List Due) → Fits (structs d p es)
    → Laid words end (record { slot = slot; tree = structs d p es } ∷ due)
    ↔ (IsPointed words end slot (structs d p es) × (slice_get words end ≡ Some (struct_word (tree_count es) d p)) × DataAt words (end + 1) d p es
    × Laid words (end + 1 + tree_count es * (d + p)) (element_slots d p (end + 1) es ++ due))
structs_laid words end slot d p es due f = (to, from)
  where
    to : Laid words end (record { slot = slot; tree = structs d p es } ∷ due)
        → IsPointed words end slot (structs d p es) × (slice_get words end ≡ Some (struct_word (tree_count es) d p)) × DataAt words (end + 1) d p es
        × Laid words (end + 1 + tree_count es * (d + p)) (element_slots d p (end + 1) es ++ due)
    to (offset, e, q, s, l) =
        let ew = element_words (d + p) 0 es in
        let n : length ew ≡ tree_count es * (d + p) = length-element_words (d + p) 0 d p es f.4 in
        let r = elements_due words d p _ _ _ es due (no_more _) f.4 (lie_front _ _ ew _ s.1)
        (lie_back _ _ _ ew _ (structs_after _ _ _ n) s.1)
        (subst (λ x. Laid words x due) (sym (structs_rest _ _ _)) l) in
        ((offset, e, q), s.0, r.0, r.1)

    from : IsPointed words end slot (structs d p es) × (slice_get words end ≡ Some (struct_word (tree_count es) d p)) × DataAt words (end + 1) d p es
        × Laid words (end + 1 + tree_count es * (d + p)) (element_slots d p (end + 1) es ++ due)
        → Laid words end (record { slot = slot; tree = structs d p es } ∷ due)
    from ((offset, e, q), tag, da, l) =
        let ew = element_words (d + p) 0 es in
        let n : length ew ≡ tree_count es * (d + p) = length-element_words (d + p) 0 d p es f.4 in
        let r = due_elements words d p (end + 1) (end + 1 + tree_count es * (d + p)) 0 es due (no_more (end + 1 + tree_count es * (d + p))) f.4 da l in
        search (rules, lie_join, structs_after, structs_rest)

-- A list of pointers: its pointer, and then its entries are due.
pub pointers_laid : (words : List ℕ) (end slot : ℕ) (ts : Trees) (due : List Due) → Fits (pointers ts)
    → Laid words end (record { slot = slot; tree = pointers ts } ∷ due)
    ↔ (IsPointed words end slot (pointers ts) × Laid words (end + tree_count ts) (slots end ts ++ due))
pointers_laid words end slot ts due f = (to, from)
  where
    following : end + tree_count ts ≡ end + length (pointer_words 0 ts)
    following = omega (arith, length-pointer_words 0 ts)

    to : Laid words end (record { slot = slot; tree = pointers ts } ∷ due)
        → IsPointed words end slot (pointers ts) × Laid words (end + tree_count ts) (slots end ts ++ due)
    to y1 = search (rules, row_due, lie_front, lie_back, following)

    from : IsPointed words end slot (pointers ts) × Laid words (end + tree_count ts) (slots end ts ++ due)
        → Laid words end (record { slot = slot; tree = pointers ts } ∷ due)
    from ((offset, e, p), l) =
        let r = due_row words end (end + tree_count ts) 0 ts due (omega arith) f.1 l in
        let i : end + tree_count ts + sizes ts ≡ end + size (pointers ts) = omega arith in
        search (rules, lie_join, following)

-- no words more
same_end : (words : List ℕ) (end n : ℕ) (due : List Due) → n ≡ 0 → Laid words (end + n) due → Laid words end due
same_end words end n due e l = let i : end + n ≡ end = omega (arith, e) in subst (λ x. Laid words x due) i l

sum_back : (end a b : ℕ) → end + (a + b) ≡ end + a + b
sum_back end a b = omega arith

sum_three : (end n : ℕ) → end + 1 + n ≡ end + (1 + n)
sum_three end n = omega arith

-- One object: its pointer, its own words, and then what is below it is due.
pub object_laid : (words : List ℕ) (end slot : ℕ) (u : Tree) (due : List Due) → Fits u
    → Laid words end (record { slot = slot; tree = u } ∷ due) ↔
    (IsPointed words end slot u × OwnAt words end u × Laid words (end + own_size u) (below end u ++ due))
object_laid words end slot null due f = search (rules, laid_inside, same_end)
object_laid words end slot (cap i) due f = search (rules, laid_inside, same_end)
object_laid words end slot (struct ws ts) due f =
    search (rules, struct_laid words end slot ws ts due f, sum_back end (length ws) (tree_count ts))
object_laid words end slot (scalars c vs) due f = search rules
object_laid words end slot (pointers ts) due f =
    let r = pointers_laid words end slot ts due f in search rules
object_laid words end slot (structs d p es) due f =
    let r = structs_laid words end slot d p es due f in search (rules, sum_three)
