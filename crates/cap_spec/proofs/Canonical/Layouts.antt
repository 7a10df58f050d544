-- The layout of a tree denotes that tree: wherever its content is, and a pointer with the offset to there.
use Rattle.cap_spec.proofs.ProofNames.{rules, List, [], ap, arith, length, length-append, refl, subst, sym, ℕ, ◌*◌}
use Rattle.cap_spec.proofs.ProofNames.{◌++◌, ◌+◌, ◌<◌, ◌^◌, ◌↔◌, ◌∷◌, ◌≡◌, ◌≤◌, content, contents, element_contents}
use Rattle.cap_spec.proofs.ProofNames.{element_sizes, element_words, layout, list_word, pointer_to, pointer_words, size}
use Rattle.cap_spec.proofs.ProofNames.{sizes, struct_word, trim, AreElements, DenoteEach, Denotes, near, HasWord}
use Rattle.cap_spec.proofs.ProofNames.{HasWordsAt, Tree, Trees, cap, more, null, pointers, scalars, struct, structs}
use Rattle.cap_spec.proofs.ProofNames.{tree_count}
use Rattle.cap_spec.specs.Denoting.{places}
use Rattle.cap_spec.specs.Tree.{none}
use Rattle.cap_spec.proofs.Canonical.ElementPlaces.{children_begin, children_near, element_end, rest_begin, rest_near}
use Rattle.cap_spec.proofs.Canonical.ElementPlaces.{without_tag}
use Rattle.cap_spec.proofs.Canonical.Laying.{any_struct_laid, not_far, pointers_laid, scalars_laid, structs_laid}
use Rattle.cap_spec.proofs.Canonical.Placing.{lie_back, lie_front, lie_inside, lie_read, lie_whole}
use Rattle.cap_spec.proofs.Canonical.PointerFields.{CapFields, cap_fields, list_fields, struct_fields}
use Rattle.cap_spec.proofs.Canonical.Sizes.{length-content, length-contents, length-element_words, length-pointer_words}
use Rattle.cap_spec.proofs.Canonical.Sizes.{trimmed_size_charged}
use Rattle.cap_spec.proofs.Canonical.TreeMeasures.{FitEach, FitElements, Fits, Measured, cost, costs, element_costs}
use Rattle.cap_spec.proofs.Canonical.TreeMeasures.{element_heights, height, heights, measured}
use Rattle.cap_spec.proofs.Canonical.TrimmedMeasures.{Trimmed, trimmed}
use Rattle.cap_spec.proofs.Trees.OneTree.{one_tree}

-- where a struct list's elements end, and its children's contents begin
elements_end : (b x n : ℕ) → x ≡ n → b + 1 + n ≡ b + 1 + x
elements_end b x n e = omega arith

elements_inside : (b x n l : ℕ) → b + 1 + x ≤ l → x ≡ n → b + 1 + n ≤ l
elements_inside b x n l h e = omega arith

-- no words between
nothing_more : (x : ℕ) → x ≡ x + 0
nothing_more x = omega arith

mutual
  -- a pointer word to where a tree's content is denotes the tree
  pub word_denotes : (seg : List ℕ) (t : Tree) (a offset b : ℕ) → HasWord (seg ∷ []) 0 a (pointer_to offset t)
      → HasWordsAt seg b (content t)
      → b ≡ a + 1 + offset → Fits t → offset < 2 ^ 29 → size t < 2 ^ 29 → Denotes (seg ∷ []) 0 a t (cost t) (height t)
  word_denotes seg null a offset b h st e f lo ls = (near 0 h (λ z. absurd (omega (arith, z))) refl refl, refl)
  word_denotes seg (cap i) a offset b h st e f lo ls =
      let c : CapFields (3 + 2 ^ 32 * i) i = cap_fields i f in
      (near (3 + 2 ^ 32 * i) h (not_far _ c.kind) ((c.kind, c.middle), c.index) refl, refl)
  word_denotes seg (struct ws ts) a offset b h st e f lo ls =
      let front : HasWordsAt seg b (ws ++ pointer_words 0 ts) =
      lie_front seg b (ws ++ pointer_words 0 ts) (contents ts) st in
      let n : length (ws ++ pointer_words 0 ts) ≡ length ws + tree_count ts =
      (let x = length-append ws (pointer_words 0 ts) in omega (arith, x, length-pointer_words 0 ts)) in
      let le : b + length ws + tree_count ts ≤ length seg =
      (let x = lie_inside seg b (ws ++ pointer_words 0 ts) front in omega (arith, x, n)) in
      any_struct_laid seg ws ts a b offset (costs ts) (heights ts) h f.0 f.1 e lo le
      (lie_front seg b ws (pointer_words 0 ts) front)
      (each_denote seg ts 0 (b + length ws) (b + length ws + tree_count ts)
      (lie_back seg b (b + length ws) ws (pointer_words 0 ts) refl front)
      (lie_back seg b (b + length ws + tree_count ts) (ws ++ pointer_words 0 ts) (contents ts) (omega (arith, n)) st)
      (omega arith) f.2 (omega (arith, ls)))
  word_denotes seg (scalars c vs) a offset b h st e f lo ls =
      scalars_laid seg c vs a b offset (list_word offset c (length vs)) h
      (list_fields offset c (length vs) (omega (arith, lo)) (omega (arith, f.0)) f.1) f.0 f.2 e lo st
  word_denotes seg (pointers ts) a offset b h st e f lo ls =
      let front : HasWordsAt seg b (pointer_words 0 ts) = lie_front seg b (pointer_words 0 ts) (contents ts) st in
      let le : b + tree_count ts ≤ length seg =
      omega (arith, lie_inside, length-pointer_words) in
      pointers_laid seg ts a b offset (list_word offset 6 (tree_count ts)) (costs ts) (heights ts) h
      (list_fields offset 6 (tree_count ts) (omega (arith, lo)) (omega arith) f.0) e lo le
      (each_denote seg ts 0 b (b + tree_count ts) front
      (lie_back seg b (b + tree_count ts) (pointer_words 0 ts) (contents ts)
      (omega (arith, length-pointer_words 0 ts)) st)
      (omega arith) f.1 (omega (arith, ls)))
  word_denotes seg (structs d p es) a offset b h st e f lo ls =
      let front : HasWordsAt seg (b + 1) (element_words (d + p) 0 es) =
      lie_front seg (b + 1) (element_words (d + p) 0 es) (element_contents es) st.1 in
      let n : length (element_words (d + p) 0 es) ≡ tree_count es * (d + p) =
      length-element_words (d + p) 0 d p es f.4 in
      structs_laid seg d p (tree_count es) es a b offset (list_word offset 7 (tree_count es * (d + p)))
      (struct_word (tree_count es) d p) (element_costs es) (element_heights es) h
      (list_fields offset 7 (tree_count es * (d + p)) (omega (arith, lo)) (omega arith) f.3) st.0
      (struct_fields (tree_count es) d p f.2 f.0 f.1) e lo
      (search (rules, elements_inside, lie_inside))
      (elements_denote seg d p es 0 (b + 1) (b + 1 + tree_count es * (d + p)) front
      (search (rules, lie_back, elements_end))
      (nothing_more (b + 1 + tree_count es * (d + p))) f.4
      (without_tag (tree_count es * (d + p)) (element_sizes es) (2 ^ 29) ls))

  -- pointer words in a row, and the contents that they lead to
  pub each_denote : (seg : List ℕ) (ts : Trees) (after pb cb : ℕ) → HasWordsAt seg pb (pointer_words after ts)
      → HasWordsAt seg cb (contents ts)
      → cb ≡ pb + tree_count ts + after → FitEach ts → after + tree_count ts + sizes ts < 2 ^ 29
      → DenoteEach (seg ∷ []) (places 0 pb (tree_count ts)) ts (costs ts) (heights ts)
  each_denote seg none after pb cb sp sc e f l = (refl, refl, refl)
  each_denote seg (more t ts) after pb cb sp sc e f l = (
    0,
    pb,
    places 0 (pb + 1) (tree_count ts),
    cost t,
    height t,
    costs ts,
    heights ts,
    refl,
    word_denotes seg t pb (tree_count ts + after) cb sp.0 (lie_front seg cb (content t) (contents ts) sc)
        (omega (arith, e)) f.0 (omega (arith, l)) (omega (arith, l)),
    each_denote seg ts (after + size t) (pb + 1) (cb + size t) sp.1
        (lie_back seg cb (cb + size t) (content t) (contents ts) (ap (λ n. cb + n) (sym (length-content t f.0))) sc)
        (omega (arith, e)) f.1 (omega (arith, l)),
    refl,
    refl,
  )

  -- elements in a row, and the contents that their pointers lead to
  pub elements_denote : (seg : List ℕ) (d p : ℕ) (es : Trees) (after eb cb : ℕ)
      → HasWordsAt seg eb (element_words (d + p) after es) → HasWordsAt seg cb (element_contents es)
      → cb ≡ eb + tree_count es * (d + p) + after → FitElements d p es
      → after + tree_count es * (d + p) + element_sizes es < 2 ^ 29
      → AreElements (seg ∷ []) 0 eb d p (tree_count es) es (element_costs es) (element_heights es)
  elements_denote seg d p none after eb cb sp sc e f l = (refl, refl, refl)
  elements_denote seg d p (more (struct ws ts) es) after eb cb sp sc e f l =
      let pw = pointer_words (tree_count es * (d + p) + after) ts in
      let ew = element_words (d + p) (after + sizes ts) es in
      let front : HasWordsAt seg eb (ws ++ pw) = lie_front seg eb (ws ++ pw) ew sp in
      let own : HasWordsAt seg eb ws = lie_front seg eb ws pw front in
      let below : HasWordsAt seg (eb + d) pw = lie_back seg eb (eb + d) ws pw (ap (λ n. eb + n) (sym f.0)) front in
      let each : DenoteEach (seg ∷ []) (places 0 (eb + d) (tree_count ts)) ts (costs ts) (heights ts) =
      each_denote seg ts (tree_count es * (d + p) + after) (eb + d) cb below
      (lie_front seg cb (contents ts) (element_contents es) sc)
      (children_begin cb eb (tree_count es) d p (tree_count ts) after e f.1) f.2
      (search (rules, children_near)) in (
        tree_count es,
        costs ts,
        heights ts,
        element_costs es,
        element_heights es,
        refl,
        sym (lie_read seg eb d ws (sym f.0) own),
        subst (λ n. DenoteEach (seg ∷ []) (places 0 (eb + d) n) ts (costs ts) (heights ts)) f.1 each,
        elements_denote seg d p es (after + sizes ts) (eb + d + p) (cb + sizes ts)
            (lie_back seg eb (eb + d + p) (ws ++ pw) ew
            (search (rules, element_end, length-pointer_words)) sp)
            (lie_back seg cb (cb + sizes ts) (contents ts) (element_contents es)
            (ap (λ n. cb + n) (sym (length-contents ts f.2))) sc)
            (rest_begin cb eb (tree_count es) d p after (sizes ts) e) f.3
            (rest_near after (tree_count es) (d + p) (sizes ts) (element_sizes es) (2 ^ 29) l),
        refl,
        refl,
      )
  elements_denote seg d p (more t es) after eb cb sp sc e f l = absurd f

-- the layout of a tree that fits, as one segment, denotes the tree
pub layout_denotes : (t : Tree) → Fits t → size t < 2 ^ 29 → Denotes (layout t ∷ []) 0 0 t (cost t) (height t)
layout_denotes t f l = word_denotes (layout t) t 0 0 1 refl (lie_whole (layout t)).1 refl f (omega arith) l

-- the layout of what is denoted, trimmed, denotes the trimmed tree, at no more charge and the same depth
pub trimmed_layout_denotes : (m : List (List ℕ)) (s w : ℕ) (t : Tree) (c d : ℕ) → Denotes m s w t c d → c < 2 ^ 29
    → (c' : ℕ) × Denotes (layout (trim t) ∷ []) 0 0 (trim t) c' d × (c' ≤ c)
trimmed_layout_denotes m s w t c d h l =
    let a : Measured t c d = measured m s w t c d h in
    let b : Trimmed t (trim t) = trimmed t a.fits in
    let e : size (trim t) ≤ c = trimmed_size_charged m s w t c d h in
    let i : Denotes (layout (trim t) ∷ []) 0 0 (trim t) (cost (trim t)) (height (trim t)) =
    layout_denotes (trim t) b.fits (omega arith) in
    search rules

-- equal layouts of trimmed trees are those of equal trimmed trees
pub one_layout : (m : List (List ℕ)) (s w : ℕ) (t : Tree) (c d : ℕ) → Denotes m s w t c d → c < 2 ^ 29
    → (m' : List (List ℕ)) (s' w' : ℕ) (u : Tree) (c' d' : ℕ) → Denotes m' s' w' u c' d' → c' < 2 ^ 29
    → (layout (trim t) ≡ layout (trim u)) ↔ (trim t ≡ trim u)
one_layout m s w t c d h l m' s' w' u c' d' h' l' = (to, λ e. ap layout e)
  where
    to : layout (trim t) ≡ layout (trim u) → trim t ≡ trim u
    to e =
        let a = trimmed_layout_denotes m s w t c d h l in
        let b = trimmed_layout_denotes m' s' w' u c' d' h' l' in
        (one_tree (layout (trim u) ∷ []) 0 0 (trim t) (trim u) a.0 d b.0 d'
        (subst (λ ws. Denotes (ws ∷ []) 0 0 (trim t) a.0 d) e a.1) b.1).part
