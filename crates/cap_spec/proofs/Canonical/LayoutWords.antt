-- The words of a layout are words.
use Rattle.std.proofs.Common.{div-mul-le_self, pow-add, pow_mono}
use Rattle.cap_spec.specs.Tree.{none}
use Rattle.cap_spec.proofs.Bytes.Lists.{all_append, all_drop, all_take}
use Rattle.cap_spec.proofs.Canonical.ElementPlaces.{elements_only, rest_near}
use Rattle.cap_spec.proofs.Canonical.Sizes.{trimmed_size_charged}
use Rattle.cap_spec.proofs.Canonical.TreeMeasures.{FitEach, FitElements, Fits, measured}
use Rattle.cap_spec.proofs.Canonical.TrimmedMeasures.{trimmed}
use Rattle.cap_spec.proofs.Canonical.TrimmedTrees.{trimmed_is_tree}
use Rattle.cap_spec.proofs.ProofNames.{List, [], arith, drop, length, length-take, map, subst, suc, sym, take, zero, ℕ}
use Rattle.cap_spec.proofs.ProofNames.{◌*◌, ◌+◌, ◌<◌, ◌^◌, ◌∷◌, ◌≡◌, ◌≤◌, mul-le, AllByRecursion, range_with_len}
use Rattle.cap_spec.proofs.ProofNames.{content, contents, element_contents, element_sizes, element_words, layout}
use Rattle.cap_spec.proofs.ProofNames.{pointer_to, pointer_words, size, sizes, trim, Denotes, element_bits, packed_word}
use Rattle.cap_spec.proofs.ProofNames.{scalar_words, AreElementTrees, AreTrees, IsTree, Tree, Trees, more, pointers}
use Rattle.cap_spec.proofs.ProofNames.{scalars, struct, structs, tree_count, IsWord, rules}
use Rattle.cap_spec.proofs.Trees.DenotedTrees.{AreWords, denoted_is_tree}

-- values of one word fit the bits that they take together
one_more : (v b m p : ℕ) → v < b → m < p → v + b * m < b * p
one_more v b m p h g = search rules

packed_below : (bits : ℕ) (vs : List ℕ) → AllByRecursion (λ v. v < 2 ^ bits) vs
    → packed_word bits vs < 2 ^ (length vs * bits)
packed_below bits [] a = search rules
packed_below bits (v ∷ vs) a =
    let s : bits + length vs * bits ≡ suc (length vs) * bits = omega arith in
    let e : 2 ^ (suc (length vs) * bits) ≡ 2 ^ bits * 2 ^ (length vs * bits) =
    rw (sym s) (pow-add 2 bits (length vs * bits)) in
    subst (λ n. v + 2 ^ bits * packed_word bits vs < n) (sym e)
    (search (rules, one_more, packed_below bits vs a.1))

-- and this many a word fit a word
packed_is_word : (bits per : ℕ) (vs : List ℕ) → per * bits ≤ 64 → AllByRecursion (λ v. v < 2 ^ bits) vs
    → packed_word bits (take per vs) < 2 ^ 64
packed_is_word bits per vs h a =
    let few : length (take per vs) ≤ per = omega (arith, length-take per vs) in
    let l : length (take per vs) * bits ≤ per * bits = mul-le (length (take per vs)) bits per bits few (omega arith) in
    search (rules, pow_mono, packed_below, all_take)

value_words_are : (bits per a count : ℕ) (vs : List ℕ) → per * bits ≤ 64 → AllByRecursion (λ v. v < 2 ^ bits) vs
    → AllByRecursion IsWord (map (λ k. packed_word bits (take per (drop (k * per) vs))) (range_with_len a count))
value_words_are bits per a zero vs h f = tt
value_words_are bits per a (suc count) vs h f =
    search (rules, packed_is_word, all_drop, value_words_are bits per (a + 1) count vs h f)

scalar_words_are : (c : ℕ) (vs : List ℕ) → AllByRecursion (λ v. v < 2 ^ element_bits c) vs
    → AllByRecursion IsWord (scalar_words c vs)
scalar_words_are c vs f = search (rules, value_words_are, div-mul-le_self)

-- the pointer to a tree that fits
pub pointer_is_word : (offset : ℕ) (t : Tree) → Fits t → offset < 2 ^ 30 → pointer_to offset t < 2 ^ 64
pointer_is_word offset t f l = search rules

-- pointers in a row
row_is_words : (after : ℕ) (ts : Trees) → FitEach ts → after + tree_count ts + sizes ts < 2 ^ 29
    → AllByRecursion IsWord (pointer_words after ts)
row_is_words after none f l = tt
row_is_words after (more t ts) f l = search (rules, row_is_words (after + size t) ts f.1 (omega (arith, l)))

-- elements in a row
elements_are_words : (d p after : ℕ) (es : Trees) → AreElementTrees d p es → FitElements d p es
    → after + tree_count es * (d + p) + element_sizes es < 2 ^ 29
    → AllByRecursion IsWord (element_words (d + p) after es)
elements_are_words d p after (more (struct ws ts) es) a f l =
    search (rules, all_append, row_is_words, rest_near, elements_are_words d p (after + sizes ts) es a.4 f.3)
elements_are_words d p after es a f l = search rules

mutual
  -- the words of a tree's content
  pub content_is_words : (t : Tree) → IsTree t → Fits t → size t < 2 ^ 29 → AllByRecursion IsWord (content t)
  content_is_words (struct ws ts) a f l =
      search (rules, all_append, row_is_words, contents_are_words ts a.1 f.2 (omega (arith, l)))
  content_is_words (scalars c vs) a f l = scalar_words_are c vs f.2
  content_is_words (pointers ts) a f l =
      search (rules, all_append, row_is_words, contents_are_words ts a f.1 (omega (arith, l)))
  content_is_words (structs d p es) a f l = search (
    rules,
    all_append,
    elements_are_words,
    element_contents_are_words d p es a f.4 (elements_only (tree_count es * (d + p)) (element_sizes es) (2 ^ 29) l),
  )
  content_is_words t a f l = tt

  pub contents_are_words : (ts : Trees) → AreTrees ts → FitEach ts → sizes ts < 2 ^ 29
      → AllByRecursion IsWord (contents ts)
  contents_are_words none a f l = tt
  contents_are_words (more t ts) a f l =
      search (
        rules,
        all_append,
        contents_are_words ts a.1 f.1 (omega (arith, l)),
        content_is_words t a.0 f.0 (omega (arith, l)),
      )

  pub element_contents_are_words : (d p : ℕ) (es : Trees) → AreElementTrees d p es → FitElements d p es
      → element_sizes es < 2 ^ 29 → AllByRecursion IsWord (element_contents es)
  element_contents_are_words d p (more (struct ws ts) es) a f l = search (
    rules,
    all_append,
    element_contents_are_words d p es a.4 f.3 (omega (arith, l)),
    contents_are_words ts a.3 f.2 (omega (arith, l)),
  )
  element_contents_are_words d p es a f l = search rules

-- the layout of what a message of words denotes, trimmed
pub layout_is_words : (m : List (List ℕ)) (s w : ℕ) (t : Tree) (c d : ℕ) → AreWords m → Denotes m s w t c d → c < 2 ^ 29
    → AllByRecursion IsWord (layout (trim t))
layout_is_words m s w t c d a h l =
    search (
      rules,
      measured,
      trimmed,
      trimmed_size_charged,
      pointer_is_word,
      content_is_words,
      trimmed_is_tree,
      denoted_is_tree,
    )
