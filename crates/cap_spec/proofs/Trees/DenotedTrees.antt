-- What a message of words denotes is a tree: its words are words, its values fit, its elements have their sizes.
use Rattle.std.proofs.Common.{mod-lt, pow_pos}
use Rattle.cap_spec.specs.Denoting.{places}
use Rattle.cap_spec.specs.Tree.{none}
use Rattle.cap_spec.proofs.Bytes.Lists.{all_drop, all_take}
use Rattle.cap_spec.proofs.Pointers.Shapes.{scalars_shape, structs_words}
use Rattle.cap_spec.proofs.ProofNames.{List, ap, arith, length, length-drop, length-take-le, map, suc, zero, ℕ, ◌*◌}
use Rattle.cap_spec.proofs.ProofNames.{◌+◌, ◌-◌, ◌/◌, ◌<◌, ◌^◌, ◌∙◌, ◌∷◌, ◌≡◌, ◌≤◌, AllByRecursion, range_with_len}
use Rattle.cap_spec.proofs.ProofNames.{AreElements, DenoteEach, Denotes, FindsKind, value_at, words_from, Leads, to_cap}
use Rattle.cap_spec.proofs.ProofNames.{segment_of, element_bits, AreElementTrees, AreTrees, IsTree, Tree, Trees, more}
use Rattle.cap_spec.proofs.ProofNames.{pointers, scalars, struct, structs, IsWord, field, Structs, rules}
use Rattle.cap_spec.proofs.Trees.Charges.{each_charged, elements_fit, length-places}

-- a message of words
abbrev pub AreWords : List (List ℕ) → Type 0
AreWords m = AllByRecursion (AllByRecursion IsWord) m

-- the words of a segment of such a message are words
segment_words : (m : List (List ℕ)) (s : ℕ) → AreWords m → AllByRecursion IsWord (segment_of m s)
segment_words (x ∷ xs) (suc s) h = segment_words xs s h.1
segment_words x0 s h = search rules

-- and so are those of a range of it
range_words : (m : List (List ℕ)) (t b n : ℕ) → AreWords m → AllByRecursion IsWord (words_from m t b n)
range_words m t b n h = search (rules, all_take, all_drop, segment_words)

-- a field of n bits is below 2 ^ n
pub field_below : (x a n : ℕ) → field x a n < 2 ^ n
field_below x a n = mod-lt (x / 2 ^ a) (pow_pos n)

-- each value of a list fits its element
pub values_fit : (words : List ℕ) (b bits i n : ℕ)
    → AllByRecursion (λ v. v < 2 ^ bits) (map (value_at words b bits) (range_with_len i n))
values_fit words b bits i zero = tt
values_fit words b bits i (suc n) = search (rules, field_below, values_fit words b bits (i + 1) n)

-- a range inside its segment has as many words as are asked for
pub range_length : (m : List (List ℕ)) (t b n : ℕ) → b + n ≤ length (segment_of m t) → length (words_from m t b n) ≡ n
range_length m t b n le = search (rules, length-take-le, length-drop)

-- the index of a capability fits 32 bits
pub cap_fits : (m : List (List ℕ)) (s w k i : ℕ) → Leads m s w k (to_cap i) → i < 2 ^ 32
cap_fits m s w k i x5 = search (rules, field_below)

-- the elements of a struct list lie inside its segment
pub elements_inside : {m : List (List ℕ)} {s w n ds ps k t b q tag : ℕ} → FindsKind m s w (Structs n ds ps) k t b q tag
    → b + 1 + n * ds + n * ps ≤ length (segment_of m t)
elements_inside f = omega (arith, elements_fit f, structs_words f.shape, f.finds.inside.inside)

mutual
  -- what a message of words denotes is a tree
  pub denoted_is_tree : (m : List (List ℕ)) → AreWords m → (s w : ℕ) (t : Tree) (c d : ℕ)
      → Denotes m s w t c d → IsTree t
  denoted_is_tree m a s w (struct words ts) c d (k, t, b, q, tag, ds, ps, inner, deep, found, own, each) =
      (rw own (range_words m t b ds a), each_is_tree m a (places t (b + ds) ps) ts inner deep each)
  denoted_is_tree m a s w (scalars e values) c d (k, t, b, q, tag, n, found, own) =
      let x = scalars_shape found.object.shape in
      (x.scalar, rw own (values_fit (segment_of m t) b (element_bits e) 0 n))
  denoted_is_tree m a s w (pointers ts) c d (k, t, b, q, tag, n, inner, deep, found, each) =
      each_is_tree m a (places t b n) ts inner deep each
  denoted_is_tree m a s w (structs ds ps es) c d (k, t, b, q, tag, n, inner, deep, found, each) =
      elements_are_trees m a t (b + 1) ds ps n es inner deep (elements_inside found.object) each
  denoted_is_tree m a s w x4 c d h = search (rules, cap_fits)

  -- and what words at places denote are trees
  pub each_is_tree : (m : List (List ℕ)) → AreWords m → (ps : List (ℕ × ℕ)) (ts : Trees) (c d : ℕ)
      → DenoteEach m ps ts c d → AreTrees ts
  each_is_tree m a ps none c d h = tt
  each_is_tree m a ps (more t ts) c d (s, w, rest, c1, d1, c2, d2, begins, denotes, after, charge, depth) =
      (denoted_is_tree m a s w t c1 d1 denotes, each_is_tree m a rest ts c2 d2 after)

  -- the elements of a list that lies inside its segment are structs of its sizes
  pub elements_are_trees : (m : List (List ℕ)) → AreWords m → (t b ds ps n : ℕ) (es : Trees) (c d : ℕ)
      → b + n * ds + n * ps ≤ length (segment_of m t) → AreElements m t b ds ps n es c d → AreElementTrees ds ps es
  elements_are_trees m a t b ds ps n (more (struct words ts) es) c d le h =
      let (fewer, c1, d1, c2, d2, counted, own, each, after, charge, depth) = h in
      let x : n * ds ≡ ds + fewer * ds = rw counted (omega arith) in
      let y : n * ps ≡ ps + fewer * ps = rw counted (omega arith) in
      let l : length words ≡ ds = ap length own ∙ range_length m t b ds (omega arith) in (
        rw own (range_words m t b ds a),
        l,
        (each_charged m (places t (b + ds) ps) ts c1 d1 each).0 ∙ length-places t (b + ds) ps,
        each_is_tree m a (places t (b + ds) ps) ts c1 d1 each,
        elements_are_trees m a t (b + ds + ps) ds ps fewer es c2 d2 (omega arith) after,
      )
  elements_are_trees m a t b ds ps n x7 c d le h = search rules
