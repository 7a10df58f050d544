-- Pointer words and objects that no copy has as they are.
use Rattle.cap_spec.specs.Denoting.{places}
use Rattle.cap_spec.proofs.Lemmas.{list_fields, struct_fields, Fits, children_needed_le, data_needed_le}
use Rattle.cap_spec.proofs.Lemmas.{tree_count-take_le, one_word, range_length, FitElements}
use Rattle.cap_spec.proofs.ProofNames.{List, ap, ap₂, arith, false, inl, inr, length, length-take-le, refl, subst, sym}
use Rattle.cap_spec.proofs.ProofNames.{take, true, ℕ, ◌*◌, ◌+◌, ◌-◌, ◌<◌, ◌==◌, ◌^◌, ◌∙◌, ◌≡◌, ◌≢◌, ◌≤◌, ◌⊎◌, eqb_tells}
use Rattle.cap_spec.proofs.ProofNames.{children_needed, children_of, cut_elements, data_needed, data_of, pointer_to}
use Rattle.cap_spec.proofs.ProofNames.{struct_word, take_trees, trim, trim_all, trim_elements, AreElements, DenoteEach}
use Rattle.cap_spec.proofs.ProofNames.{Denotes, words_from, HasWord, segment_of, code, data_size, kind, list_size}
use Rattle.cap_spec.proofs.ProofNames.{middle, pointer_size, Tree, Trees, struct, structs, tree_count, rules, []}
use Rattle.cap_spec.proofs.ProofNames.{append_assoc, suc, ◌++◌, ◌∷◌, size, more}
use Rattle.cap_ptr.specs.Shapes.{FindsObject}
use Rattle.cap_canon.specs.CanonNames.{Differs, HasNoWords, NoCopyHas, IsPointed, OwnAt, NeedsLess, most_data}
use Rattle.cap_canon.specs.Trimming.{ListNeedsLess}
use Rattle.cap_canon.proofs.Children.{row_needed}
use Rattle.cap_canon.proofs.Elements.{most_data_of}
use Rattle.cap_canon.proofs.Found.{struct_found, structs_found}
use Rattle.cap_canon.proofs.LaidObjects.{pointed_word}
use Rattle.cap_canon.proofs.Trimmed.{children_needed-trim, children_of-trim, data_of-trim}
use Rattle.cap_canon.proofs.Walks.{owed_fits}
use Rattle.cap_canon.specs.Laying.{Due, Laid, element_slots, slots}
use Rattle.cap_ptr.specs.declared.shapes.Shape.TheVariants as shape

-- No pointer word of a copy is far.
-- one that leads to a tree
near_word : (o word : ℕ) (t : Tree) → word ≡ pointer_to o t → kind word ≡ 2 → ⊥
near_word o word h e k = search (rules, eqb_tells)

-- the last of a row
pub row_near : (m : List (List ℕ)) (end a : ℕ) (ts : Trees) (due : List Due) (far : ℕ) → Laid (segment_of m 0) end (slots a ts ++ due)
    → 0 < tree_count ts → HasWord m 0 (a + (tree_count ts - 1)) far → kind far ≡ 2 → ⊥
row_near m end a (more t (more u us)) due far l some has k =
    row_near m (end + size t) (a + 1) (more u us) due far l.4 (omega arith) (subst (λ i. HasWord m 0 i far) (omega arith) has) k
row_near m end a us due far l some has k = search (rules, near_word, one_word)

-- what comes after some that are due
after_due : (words : List ℕ) (end : ℕ) (xs ys : List Due) → Laid words end (xs ++ ys) → (now : ℕ) × Laid words now ys
after_due words end [] ys l = (end, l)
after_due words end (x ∷ xs) ys l = after_due words (end + size x.tree) xs ys l.4

-- the last of an element
pub elements_near : (m : List (List ℕ)) (end a d p k : ℕ) (es : Trees) (due : List Due) (far : ℕ) → FitElements d p es
    → Laid (segment_of m 0) end (element_slots d p a es ++ due) → k < tree_count es → 0 < p
    → HasWord m 0 (a + k * (d + p) + d + (p - 1)) far → kind far ≡ 2 → ⊥
elements_near m end a d p (suc k) (more (struct ws ts) es) due far f l lt some has e =
    let first = subst (λ xs. Laid (segment_of m 0) end xs) (append_assoc (slots (a + d) ts) (element_slots d p (a + d + p) es) due) l in
    let rest = after_due (segment_of m 0) end (slots (a + d) ts) (element_slots d p (a + d + p) es ++ due) first in
    let once : suc k * (d + p) ≡ d + p + k * (d + p) = omega arith in
    let at : a + suc k * (d + p) + d + (p - 1) ≡ a + d + p + k * (d + p) + d + (p - 1) = omega (arith, once) in
    elements_near m rest.0 (a + d + p) d p k es due far f.3 rest.1 (omega (arith, lt)) some (subst (λ i. HasWord m 0 i far) at has) e
elements_near m end a d p k es due far f l lt some has e = search (rules, append_assoc, row_near)

-- What a pointer word of a copy is: null, a capability, that of a struct without words, or it has the offset, and words if it
-- is a struct's.
pub word_parts : (o word : ℕ) (u : Tree) → o < 2 ^ 29 → Fits u → word ≡ pointer_to o u → kind word ≢ 3 → word ≢ 0 → word ≢ 2 ^ 32 - 4
    → (((kind word ≡ 0) × (data_size word + pointer_size word ≢ 0)) ⊎ (kind word ≡ 1)) × (middle word ≡ o)
word_parts o word h small f e k z n = search (rules, eqb_tells, struct_fields)

-- So no copy has another word, unless it leads to the end: then it has words, or is that of a list without bits.
pub no_word : (m : List (List ℕ)) (w end word : ℕ) → HasWord m 0 w word → kind word ≢ 3 → word ≢ 0 → word ≢ 2 ^ 32 - 4
    → (w + 1 + middle word ≡ end → HasNoWords word) → (kind word ≡ 1 → code word ≡ 0 → w + 1 + middle word ≡ end → ⊥) → NoCopyHas m w end
no_word m w end word has k z n other list x c d h lt small pointed own due laid =
    let e = pointed_word m w end word (trim x) has pointed in
    let fits = owed_fits m d 0 0 w (trim x) (x, c, d, h, refl, omega arith) in search (rules, word_parts)

-- the same where it may be that of a capability
pub other_differs : (m : List (List ℕ)) (w end word : ℕ) → HasWord m 0 w word → word ≢ 0 → word ≢ 2 ^ 32 - 4
    → (w + 1 + middle word ≡ end → HasNoWords word) → (kind word ≡ 1 → code word ≡ 0 → w + 1 + middle word ≡ end → ⊥) → Differs m w end
other_differs m w end word has z n other list = go (eqb_tells (kind word) 3)
  where
    go : (((kind word == 3) ≡ true) × (kind word ≡ 3)) ⊎ (((kind word == 3) ≡ false) × (kind word ≡ 3 → ⊥)) → Differs m w end
    go (inl y) = inl (word, has, y.1)
    go (inr y) = inr (no_word m w end word has y.1 z n other list)

-- The sizes of a struct that a copy has as it is are those that the struct needs.
record StructNeeds (m : List (List ℕ)) (end word : ℕ) (u : Tree) : Type 0 where
  pub data_words : data_size word ≡ data_needed (words_from m 0 end (data_size word))
  pub children : Trees
  pub charge : ℕ
  pub depth : ℕ
  pub denote : DenoteEach m (places 0 (end + data_size word) (pointer_size word)) children charge depth
  pub pointers : pointer_size word ≡ children_needed children
  -- what is left of it
  pub front : List ℕ
  pub first : Trees
  pub tree : u ≡ struct front first
  pub data_left : data_size word ≡ length front
  pub pointers_left : pointer_size word ≡ tree_count first

struct_needs : (m : List (List ℕ)) (w end word words charge : ℕ) (x : Tree) (c d : ℕ)
    → FindsObject m 0 w 0 0 end word 0 words charge (shape.Struct (data_size word) (pointer_size word)) → HasWord m 0 w word
    → w + 1 + middle word ≡ end → Denotes m 0 w x c d → w < end → end < 2 ^ 29 → IsPointed (segment_of m 0) end w (trim x)
    → StructNeeds m end word (trim x)
struct_needs m w end word words charge x c d f has next h lt small pointed =
    let k = struct_found c h f in
    let us = trim_all k.children in
    let front = take (data_needed k.words) k.words in
    let first = take_trees (children_needed us) us in
    let e : word ≡ pointer_to (end - w - 1) (struct front first) =
    pointed_word m w end word (trim x) has pointed ∙ ap (pointer_to (end - w - 1)) (ap trim k.tree) in
    let d_is : length front ≡ data_needed (words_from m 0 end (data_size word)) =
    length-take-le (data_needed k.words) k.words (data_needed_le k.words) ∙ ap data_needed k.data_words in
    let p_is : tree_count first ≡ children_needed k.children =
    tree_count-take_le (children_needed us) us (children_needed_le us) ∙ children_needed-trim k.children in
    let d_few : length front ≤ data_size word = search (rules, range_length, length-take-le, data_needed_le) in
    let p_few : tree_count first ≤ pointer_size word =
    omega (arith, p_is, row_needed m 0 (end + data_size word) (pointer_size word) k.children k.inner k.deep k.below) in
    let y = eqb_tells (length front + tree_count first) 0 in search (rules, struct_fields)

-- So no copy has a struct as it is that needs less, or whose last pointer is far.
pub no_struct : (m : List (List ℕ)) (w end word words charge : ℕ)
    → FindsObject m 0 w 0 0 end word 0 words charge (shape.Struct (data_size word) (pointer_size word)) → HasWord m 0 w word
    → w + 1 + middle word ≡ end → NeedsLess m 0 end (data_size word) (pointer_size word) → NoCopyHas m w end
no_struct m w end word words charge f has next less x c d h lt small pointed own due laid =
    let k = struct_needs m w end word words charge x c d f has next h lt small pointed in search (rules, row_near)

-- What a list of structs needs that a copy has as it is.
record StructsNeed (m : List (List ℕ)) (end n d p : ℕ) (u : Tree) : Type 0 where
  pub elements : Trees
  pub charge : ℕ
  pub depth : ℕ
  pub are : AreElements m 0 (end + 1) d p n elements charge depth
  pub data_words : d ≡ most_data m 0 (end + 1) d p n
  pub pointers : p ≡ children_of elements
  -- what is left of it
  pub cut : Trees
  pub tree : u ≡ structs d p cut
  pub count : n ≡ tree_count cut
  pub fits : Fits (structs d p cut)

structs_need : (m : List (List ℕ)) (w end word tag words charge size n d p : ℕ) (x : Tree) (c deep : ℕ)
    → FindsObject m 0 w 0 0 end word tag words charge (shape.Structs size n d p) → Denotes m 0 w x c deep → OwnAt (segment_of m 0) end (trim x)
    → StructsNeed m end n d p (trim x)
structs_need m w end word tag words charge size n d p x c deep f h own =
    let k = structs_found c h f in
    let us = trim_elements k.elements in
    let cs = cut_elements (data_of us) (children_of us) us in
    let tree : trim x ≡ structs (data_of us) (children_of us) cs = ap trim k.tree in
    let fits : Fits (structs (data_of us) (children_of us) cs) = subst Fits tree (owed_fits m deep 0 0 w (trim x) (x, c, deep, h, refl, omega arith)) in
    let laid : OwnAt (segment_of m 0) end (structs (data_of us) (children_of us) cs) = subst (λ (u : Tree). OwnAt (segment_of m 0) end u) tree own in
    let tagged = f.object.tagged (f.object.shape.kind, f.object.shape.code) in
    let same = one_word m 0 end tag (struct_word (tree_count cs) (data_of us) (children_of us)) tagged.0 laid.0 in
    let fields = struct_fields (tree_count cs) (data_of us) (children_of us) fits.2 fits.0 fits.1 in
    let d_left : d ≡ data_of us = f.object.shape.data_words ∙ (ap data_size same ∙ fields.data_words) in
    let p_left : p ≡ children_of us = f.object.shape.pointers ∙ (ap pointer_size same ∙ fields.pointers) in
    let most = most_data_of m 0 (end + 1) d p n k.elements k.inner k.deep k.below in record {
      elements = k.elements;
      charge = k.inner;
      depth = k.deep;
      are = k.below;
      data_words = d_left ∙ (data_of-trim k.elements ∙ sym most);
      pointers = p_left ∙ children_of-trim k.elements;
      cut = cs;
      tree = tree ∙ ap₂ (λ i j. structs i j cs) (sym d_left) (sym p_left);
      count = f.object.shape.count ∙ (ap middle same ∙ fields.middle);
      fits = subst (λ i. Fits (structs i p cs)) (sym d_left) (subst (λ j. Fits (structs (data_of us) j cs)) (sym p_left) fits);
    }

-- nor a list of structs
pub no_structs : (m : List (List ℕ)) (w end word tag words charge size n d p : ℕ)
    → FindsObject m 0 w 0 0 end word tag words charge (shape.Structs size n d p) → ListNeedsLess m 0 (end + 1) d p n → NoCopyHas m w end
no_structs m w end word tag words charge size n d p f less x c deep h lt small pointed own due laid = go less
  where
    k : StructsNeed m end n d p (trim x)
    k = structs_need m w end word tag words charge size n d p x c deep f h own

    go : ListNeedsLess m 0 (end + 1) d p n → ⊥
    go (inl data_less) = data_less k.data_words
    go (inr (inl fewer)) = fewer k.elements k.charge k.depth k.are k.pointers
    go (inr (inr (some, i, few, (far, here, e)))) =
        let at : end + 1 + (d + (p - 1)) + i * (d + p) ≡ end + 1 + i * (d + p) + d + (p - 1) = omega arith in
        search (rules, elements_near, k)

-- nor one that has surplus words
pub no_surplus : (m : List (List ℕ)) (w end word tag words charge size n d p : ℕ)
    → FindsObject m 0 w 0 0 end word tag words charge (shape.Structs size n d p) → HasWord m 0 w word → n * (d + p) ≢ list_size word → NoCopyHas m w end
no_surplus m w end word tag words charge size n d p f has surplus x c deep h lt small pointed own due laid =
    let k = structs_need m w end word tag words charge size n d p x c deep f h own in
    search (rules, pointed_word, list_fields)
