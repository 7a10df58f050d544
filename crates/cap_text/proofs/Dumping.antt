-- The lines of children, one after the other, and how deep they nest.
use Rattle.cap_spec.specs.Denoting.{places}
use Rattle.cap_spec.specs.Texts.{all_lines, child_lines}
use Rattle.cap_spec.specs.Tree.{none}
use Rattle.cap_spec.specs.declared.Step.{Step}
use Rattle.cap_spec.proofs.Pointers.Shapes.{structs_levels}
use Rattle.cap_spec.proofs.ProofNames.{List, None, Result, Some, [], ap, arith, codes, inl, inr, refl, subst, suc, sym}
use Rattle.cap_spec.proofs.ProofNames.{zero, ℕ, ◌++◌, ◌+◌, ◌<◌, ◌∙◌, ◌≡◌, ◌≤◌, eqb_tells, AreElements, DenoteEach, Denotes}
use Rattle.cap_spec.proofs.ProofNames.{element_levels, ReachesSpot, Spot}
use Rattle.cap_spec.proofs.ProofNames.{Own, kind_of, own_of, DenotesAt, dump_text, label, own_text, Tree, Trees, cap, more}
use Rattle.cap_spec.proofs.ProofNames.{null, part_at, pointers, scalars, struct, structs, tree_at, tree_count, rules}
use Rattle.cap_text.specs.Dumping.{child_letter_of, child_step_of, height, heights, shown_below, shown_count_of}
use Rattle.cap_text.specs.Dumping.{trees_from}
use Rattle.cap_text.specs.TextNames.{Kind, OutFault, Added, Adds, Halted}
use Rattle.cap_text.proofs.Paging.{Left, added_then, adds_then, halted_more, halted_then, left_done, left_start}
use Rattle.cap_text.proofs.Paging.{left_step, left_stop}
use Rattle.cap_words.specs.declared.byte_io.ByteOut as output

-- the next of some trees
next_tree : (ts : Trees) (i : ℕ) (u : Tree) → tree_at ts i ≡ Some u → trees_from i ts ≡ more u (trees_from (i + 1) ts)
next_tree none i u e = absurd (cc e)
next_tree (more t ts) zero u e = let f : t ≡ u = cc e in rw f refl
next_tree (more t ts) (suc i) u e = search (rules, next_tree ts i u e)

-- and none after the last
no_tree : (ts : Trees) (i : ℕ) → tree_count ts ≤ i → trees_from i ts ≡ none
no_tree none zero h = refl
no_tree (more t ts) (suc i) h = no_tree ts i (omega (arith, h))
no_tree ts i h = search rules

-- there is a tree at each number below the count
tree_is_there : (ts : Trees) (i : ℕ) → i < tree_count ts → tree_at ts i ≡ None → ⊥
tree_is_there (more t ts) (suc i) h e = tree_is_there ts i (omega (arith, h)) e
tree_is_there ts i h e = search rules

-- each is lower than the node above by one
height_at : (ts : Trees) (i : ℕ) (u : Tree) → tree_at ts i ≡ Some u → height u + 1 ≤ heights ts
height_at (more t ts) (suc i) u e = omega (arith, height_at ts i u e)
height_at ts i u e = search rules

-- a node's lines are those of the children that are shown
lines_below : (level : ℕ) (t : Tree) → child_lines level t ≡ all_lines level (child_letter_of (kind_of (own_of t))) 0 (shown_below t)
lines_below level t = search (rules, eqb_tells)

height_below : (t : Tree) → height t ≡ heights (shown_below t)
height_below t = search (rules, eqb_tells)

count_below : (t : Tree) → shown_count_of (kind_of (own_of t)) ≡ tree_count (shown_below t)
count_below t = search (rules, eqb_tells)

-- the step to a child that is shown leads to it
part_below : (t : Tree) (i : ℕ) → i < tree_count (shown_below t) → part_at t (child_step_of (kind_of (own_of t)) i) ≡ tree_at (shown_below t) i
part_below t i h = search (rules, eqb_tells)

module _ (t : Tree) (kind : Kind) (i : ℕ) (k : kind ≡ kind_of (own_of t)) (within : i < shown_count_of kind) where
  is_within : i < tree_count (shown_below t)
  is_within = subst (λ n. i < n) (ap shown_count_of k ∙ count_below t) within

  -- what a node's step leads to is the child that is shown
  pub child_of : (u : Tree) → part_at t (child_step_of kind i) ≡ Some u → tree_at (shown_below t) i ≡ Some u
  child_of u e = sym (part_below t i is_within) ∙ ap (λ x. part_at t (child_step_of x i)) (sym k) ∙ e

  -- it leads to some place
  pub child_is_there : (step : Step) → step ≡ child_step_of kind i → part_at t step ≡ None → ⊥
  child_is_there step s e = search (rules, tree_is_there, is_within, part_below)

  -- to a node that is lower by one
  pub child_height : (u : Tree) → part_at t (child_step_of kind i) ≡ Some u → height u + 1 ≤ height t
  child_height u e = omega (arith, height_at (shown_below t) i u (child_of u e), height_below t)

-- a view's kind is that of the tree
pub kind_shown : (t : Tree) (own : Own) (kind : Kind) → own ≡ own_of t → kind ≡ kind_of own → kind ≡ kind_of (own_of t)
kind_shown t own kind e k = k ∙ ap kind_of e

-- The child at number i of a node of this tree and kind, which is at a spot of a message, with its tree.
pub record Below (m : List (List ℕ)) (a : Spot) (t : Tree) (kind : Kind) (i : ℕ) : Type 0 where
  pub of_tree : kind ≡ kind_of (own_of t)
  pub within : i < shown_count_of kind
  pub tree : Tree
  pub at_i : part_at t (child_step_of kind i) ≡ Some tree
  pub denotes : DenotesAt m a tree

pub below : {m m' : List (List ℕ)} (a : Spot) (t : Tree) {own : Own} {kind : Kind} {i n : ℕ} {step : Step}
    → own ≡ own_of t → kind ≡ kind_of own → i < n → n ≡ shown_count_of kind
    → step ≡ child_step_of kind i → m' ≡ m → (u : Tree) × (part_at t step ≡ Some u) × DenotesAt m a u → Below m' a t kind i
below a t e k lt many s same p = search rules

-- no elements take more levels than some
levels_of_few : (n : ℕ) → element_levels n ≤ element_levels 1
levels_of_few n = search rules

mutual
  -- what a pointer word denotes nests one level of lines for each of depth
  pub height_denoted : (m : List (List ℕ)) (s w : ℕ) (t : Tree) (c d : ℕ) → Denotes m s w t c d → height t ≤ d
  height_denoted m s w null c d h = omega arith
  height_denoted m s w (cap i) c d h = omega arith
  height_denoted m s w (struct words ts) c d (k, t, b, q, tag, ds, ps, inner, deep, found, own, each) =
      omega (arith, found.depth, heights_each m (places t (b + ds) ps) ts inner deep each)
  height_denoted m s w (scalars e vs) c d h = omega arith
  height_denoted m s w (pointers ts) c d (k, t, b, q, tag, n, inner, deep, found, each) =
      omega (arith, found.depth, heights_each m (places t b n) ts inner deep each)
  height_denoted m s w (structs ds ps es) c d (k, t, b, q, tag, n, inner, deep, found, each) =
      let r = heights_elements m t (b + 1) ds ps n es inner deep each in
      let l = structs_levels found.object.shape in
      elim (eqb_tells (ds + ps) 0) [ inl e ↦ rw e.0 (omega arith) | inr e ↦ rw e.0 (omega (arith, found.depth, l, r)) ]

  heights_each : (m : List (List ℕ)) (ps : List (ℕ × ℕ)) (ts : Trees) (c d : ℕ) → DenoteEach m ps ts c d → heights ts ≤ 1 + d
  heights_each m ps none c d h = omega arith
  heights_each m ps (more t ts) c d (s, w, rest, c1, d1, c2, d2, begins, denotes, after, charge, depth) =
      let a = height_denoted m s w t c1 d1 denotes in
      let b = heights_each m rest ts c2 d2 after in
      omega (arith, a, b, depth)

  heights_elements : (m : List (List ℕ)) (t b ds ps n : ℕ) (es : Trees) (c d : ℕ) → AreElements m t b ds ps n es c d → heights es ≤ element_levels n + (1 + d)
  heights_elements m t b ds ps n none c d h = omega arith
  heights_elements m t b ds ps n (more (struct words ts) es) c d h =
      let (fewer, c1, d1, c2, d2, counted, own, each, after, charge, depth) = h in
      let a = heights_each m (places t (b + ds) ps) ts c1 d1 each in
      let r = heights_elements m t (b + ds + ps) ds ps fewer es c2 d2 after in
      omega (arith, a, r, depth, ap element_levels counted, levels_of_few fewer)
  heights_elements m t b ds ps n (more x es) c d h = absurd h

module _ {O : Type 0} (g : output.Ghosts O) (level : ℕ) (t : Tree) (kind : Kind) where
  -- The children before number i are put.
  abbrev pub ChildrenOut : O × List ℕ → O × List ℕ → ℕ → Type 0
  ChildrenOut a b i = Left g a b (all_lines level (child_letter_of kind) 0 (shown_below t))
      (all_lines level (child_letter_of kind) i (trees_from i (shown_below t)))

  -- before the first none is
  pub none_out : (a : O × List ℕ) → ChildrenOut a a 0
  none_out a = left_start g a (all_lines level (child_letter_of kind) 0 (shown_below t))

module _ {O : Type 0} (g : output.Ghosts O) (level : ℕ) (t : Tree) (kind : Kind) (k : kind ≡ kind_of (own_of t)) where
  lines_are : all_lines level (child_letter_of kind) 0 (shown_below t) ≡ child_lines level t
  lines_are = ap (λ x. all_lines level (child_letter_of x) 0 (shown_below t)) k ∙ sym (lines_below level t)

  -- after the last all are
  pub all_out : (a b : O × List ℕ) (i : ℕ) → shown_count_of kind ≤ i → ChildrenOut g level t kind a b i → Added g a b (child_lines level t)
  all_out a b i h l = search (rules, count_below, no_tree, lines_are, left_done)

  module _ (i : ℕ) (within : i < shown_count_of kind) (u : Tree) (at_i : part_at t (child_step_of kind i) ≡ Some u)
      (letter : ℕ) (is : letter ≡ child_letter_of kind) (a b : O × List ℕ) where
    -- The next child's lines, those below it, and those of the others are left.
    left_next : ChildrenOut g level t kind a b i
        → Left g a b (all_lines level (child_letter_of kind) 0 (shown_below t))
        (own_text level (label letter i) u ++ child_lines (level + 1) u ++ all_lines level (child_letter_of kind) (i + 1) (trees_from (i + 1) (shown_below t)))
    left_next l = search (rules, next_tree, child_of)

    -- one more child is put
    pub child_out : (c d : O × List ℕ) → ChildrenOut g level t kind a b i
        → Added g b c (own_text level (label letter i) u) → Added g c d (child_lines (level + 1) u)
        → ChildrenOut g level t kind a d (i + 1)
    child_out c d l v w = search (rules, left_step, left_next, added_then)

    -- a fault came in its own lines
    pub child_fails : (c : O × List ℕ) (fault : OutFault) → ChildrenOut g level t kind a b i → Halted g b c fault (own_text level (label letter i) u)
        → Halted g a c fault (child_lines level t)
    child_fails c fault l q = search (rules, lines_are, left_stop, left_next, halted_more)

    -- or in those below it
    pub below_fails : (c d : O × List ℕ) (fault : OutFault) → ChildrenOut g level t kind a b i → Added g b c (own_text level (label letter i) u)
        → Halted g c d fault (child_lines (level + 1) u) → Halted g a d fault (child_lines level t)
    below_fails c d fault l v q =
        subst (Halted g a d fault) lines_are
        (left_stop g a b d fault (all_lines level (child_letter_of kind) 0 (shown_below t)) (own_text level (label letter i) u ++ child_lines (level + 1) u)
        (all_lines level (child_letter_of kind) (i + 1) (trees_from (i + 1) (shown_below t))) (left_next l)
        (halted_then g b c d fault (own_text level (label letter i) u) (child_lines (level + 1) u) v q))

-- The tree of a message is at the spot to which the empty path comes.
pub at_root : (m m' : List (List ℕ)) (a : Spot) (t : Tree) (c d : ℕ) → m' ≡ m → ReachesSpot m [] 1 a → Denotes m 0 0 t c d → DenotesAt m' a t
at_root m m' a t c d same comes h = search rules

module _ {O : Type 0} (g : output.Ghosts O) where
  -- the root's own lines, and then what is below it
  pub adds_dump : {T : Type 0} (a b c : O × List ℕ) (r : Result T OutFault) (t : Tree)
      → Added g a b (own_text 0 (codes "root") t) → Adds g b c r (child_lines 1 t) → Adds g a c r (dump_text t)
  adds_dump a b c r t v w = adds_then g a b c r (own_text 0 (codes "root") t) (child_lines 1 t) v w

  -- or a fault in its own lines
  pub halts_dump : (a b : O × List ℕ) (fault : OutFault) (t : Tree) → Halted g a b fault (own_text 0 (codes "root") t) → Halted g a b fault (dump_text t)
  halts_dump a b fault t q = halted_more g a b fault (own_text 0 (codes "root") t) (child_lines 1 t) q
