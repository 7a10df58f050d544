-- A tree is its trimmed tree with zero data words and null pointers after those of its structs.
use Rattle.cap_spec.specs.Canonical.{trim_struct, trim_structs}
use Rattle.cap_spec.specs.Tree.{none}
use Rattle.cap_spec.proofs.ProofNames.{List, [], ap, ap₂, arith, if◌then◌else◌, length, refl, replicate, subst, suc}
use Rattle.cap_spec.proofs.ProofNames.{is_null, max, sym, take, take-append-le, zero, ℕ}
use Rattle.cap_spec.proofs.ProofNames.{◌++◌, ◌+◌, ◌-◌, ◌==◌, ◌∙◌, ◌∷◌, ◌≡◌, ◌≤◌, rules}
use Rattle.cap_spec.proofs.ProofNames.{children_needed, children_of, cut_elements, data_needed, data_of, take_trees}
use Rattle.cap_spec.proofs.ProofNames.{trim, trim_all, trim_elements, AreElementTrees, AreTrees, IsTree, Tree, Trees}
use Rattle.cap_spec.proofs.ProofNames.{cap, more, null, pointers, scalars, struct, structs, tree_count}
use Rattle.cap_spec.proofs.Canonical.TrimmedMeasures.{children_needed_le, data_needed_le, none_left}
use Rattle.cap_spec.proofs.Canonical.TrimmedTrees.{tree_count-trim_all, trimmed_are_elements}
use Rattle.cap_spec.proofs.Canonical.Trimming.{rest_below}
use Rattle.cap_laws.specs.TrimmingLaws.{ExtendEach, ExtendElements, Extends, nulls, with_nulls}

-- a word that isn't needed is zero
zero_word : (w : ℕ) → (if w == 0 then 0 else 1) ≤ 0 → w ≡ 0
zero_word zero h = refl
zero_word (suc w) h = search rules

-- words of which none are needed are zeros
all_zeros : (a : ℕ) (ws : List ℕ) → data_needed ws ≤ 0 → length ws ≡ a → ws ≡ replicate a 0
all_zeros zero [] h e = refl
all_zeros (suc a) [] h e = absurd (omega arith)
all_zeros zero (w ∷ ws) h e = absurd (omega arith)
all_zeros (suc a) (w ∷ ws) h e =
    let k = none_left (data_needed ws) (if w == 0 then 0 else 1) h in
    ap₂ (λ x xs. x ∷ xs) (zero_word w k.1) (all_zeros a ws k.0 (omega (arith, e)))

-- words are those that are kept, where these are all that are needed, and zeros after them
words_cut : (n a : ℕ) (ws : List ℕ) → data_needed ws ≤ n → length ws ≡ n + a → ws ≡ take n ws ++ replicate a 0
words_cut zero a ws h e = all_zeros a ws h (omega (arith, e))
words_cut (suc n) a [] h e = absurd (omega arith)
words_cut (suc n) a (w ∷ ws) h e =
    ap (λ xs. w ∷ xs) (words_cut n a ws (rest_below (data_needed ws) (if w == 0 then 0 else 1) n h) (omega (arith, e)))

-- the same of children, by what is needed of them when they are trimmed
all_nulls : (b : ℕ) (ts : Trees) → children_needed (trim_all ts) ≤ 0 → tree_count ts ≡ b → ts ≡ nulls b
all_nulls zero none h e = refl
all_nulls (suc b) none h e = absurd (omega arith)
all_nulls zero (more t ts) h e = absurd (omega arith)
all_nulls (suc b) (more null ts) h e =
    ap (more null) (all_nulls b ts (none_left (children_needed (trim_all ts)) 0 h).0 (omega (arith, e)))
all_nulls (suc b) (more t ts) h e = absurd (omega (arith, (none_left (children_needed (trim_all ts)) 1 h).1))

nulls_cut : (n b : ℕ) (ts : Trees) → children_needed (trim_all ts) ≤ n → tree_count ts ≡ n + b
    → ts ≡ with_nulls b (take_trees n ts)
nulls_cut zero b ts h e = all_nulls b ts h (omega (arith, e))
nulls_cut (suc n) b none h e = absurd (omega arith)
nulls_cut (suc n) b (more t ts) h e = search (rules, nulls_cut n b ts, rest_below)

-- a prefix of trees extends the prefix of the others
each_taken : (n : ℕ) (ts us : Trees) → ExtendEach ts us → ExtendEach (take_trees n ts) (take_trees n us)
each_taken zero ts us x = refl
each_taken (suc n) ts none x = ap (take_trees (suc n)) x
each_taken (suc n) ts (more u us) x =
    subst (λ vs. ExtendEach (take_trees (suc n) vs) (more u (take_trees n us))) (sym x.2)
    (x.0, take_trees n x.1, refl, x.3, each_taken n x.1 us x.4)

-- a struct's words and children are those that are kept, and zeros and nulls after them
struct_cut : (d p a b : ℕ) (words : List ℕ) (ts : Trees) → data_needed words ≤ d → children_needed (trim_all ts) ≤ p
    → length words ≡ d + a → tree_count ts ≡ p + b
    → struct words ts ≡ struct (take d words ++ replicate a 0) (with_nulls b (take_trees p ts))
struct_cut d p a b words ts h k e f = ap₂ struct (words_cut d a words h e) (nulls_cut p b ts k f)

-- no element needs more than its size
data_within : (d p : ℕ) (es : Trees) → AreElementTrees d p es → data_of es ≤ d
data_within d p none f = omega arith
data_within d p (more (struct words ts) es) f =
    let a = data_needed_le words in let r = data_within d p es f.4 in omega (arith, a, r, f.1)
data_within d p (more t es) f = absurd f

children_within : (d p : ℕ) (es : Trees) → AreElementTrees d p es → children_of es ≤ p
children_within d p none f = omega arith
children_within d p (more (struct words ts) es) f =
    let a = children_needed_le ts in let r = children_within d p es f.4 in omega (arith, a, r, f.2)
children_within d p (more t es) f = absurd f

-- what is left of n when m are taken
rest_of : (m n : ℕ) → m ≤ n → n ≡ m + (n - m)
rest_of m n h = omega arith

mutual
  pub trimmed_extends : (t : Tree) → IsTree t → Extends t (trim t)
  trimmed_extends null f = refl
  trimmed_extends (cap i) f = refl
  trimmed_extends (struct words ts) f =
      let d = data_needed words in
      let p = children_needed (trim_all ts) in
      let k : p ≤ tree_count ts = omega (arith, children_needed_le (trim_all ts), tree_count-trim_all ts) in (
        length words - d,
        tree_count ts - p,
        take_trees p ts,
        struct_cut d p (length words - d) (tree_count ts - p) words ts (omega arith) (omega arith)
            (rest_of d (length words) (data_needed_le words)) (rest_of p (tree_count ts) k),
        each_taken p ts (trim_all ts) (trimmed_each ts f.1),
      )
  trimmed_extends (scalars c vs) f = refl
  trimmed_extends (pointers ts) f = (ts, refl, trimmed_each ts f)
  trimmed_extends (structs d p es) f =
      let us = trim_elements es in
      let g : AreElementTrees d p us = trimmed_are_elements d p es f in
      let x = rest_of (data_of us) d (data_within d p us g) in
      let y = rest_of (children_of us) p (children_within d p us g) in (
        d - data_of us,
        p - children_of us,
        es,
        ap₂ (λ m n. structs m n es) x y,
        trimmed_elements (data_of us) (children_of us) (d - data_of us) (p - children_of us) d p es f x y
            (omega arith) (omega arith),
      )

  trimmed_each : (ts : Trees) → AreTrees ts → ExtendEach ts (trim_all ts)
  trimmed_each none f = refl
  trimmed_each (more t ts) f = (t, ts, refl, trimmed_extends t f.0, trimmed_each ts f.1)

  -- of d words and p children, elements of x words and y children
  trimmed_elements : (d p a b x y : ℕ) (es : Trees) → AreElementTrees x y es → x ≡ d + a → y ≡ p + b
      → data_of (trim_elements es) ≤ d → children_of (trim_elements es) ≤ p
      → ExtendElements a b es (cut_elements d p (trim_elements es))
  trimmed_elements d p a b x y none f e g h k = refl
  trimmed_elements d p a b x y (more (struct words ts) es) f e g h k = (
    take_trees p ts,
    es,
    ap (λ t. more t es) (struct_cut d p a b words ts (omega arith) (omega arith) (f.1 ∙ e) (f.2 ∙ g)),
    each_taken p ts (trim_all ts) (trimmed_each ts f.3),
    trimmed_elements d p a b x y es f.4 e g (omega arith) (omega arith),
  )
  trimmed_elements d p a b x y (more t es) f e g h k = absurd f

-- zeros after words, and nulls after children, change nothing of what is needed
zeros_needed : (a : ℕ) → data_needed (replicate a 0) ≡ 0
zeros_needed zero = refl
zeros_needed (suc a) = ap (λ n. if n == 0 then 0 else suc n) (zeros_needed a)

words_needed : (a : ℕ) (ws : List ℕ) → data_needed (ws ++ replicate a 0) ≡ data_needed ws
words_needed a [] = zeros_needed a
words_needed a (w ∷ ws) = ap (λ n. if n == 0 then (if w == 0 then 0 else 1) else suc n) (words_needed a ws)

nulls_needed : (b : ℕ) → children_needed (nulls b) ≡ 0
nulls_needed zero = refl
nulls_needed (suc b) = ap (λ n. if n == 0 then 0 else suc n) (nulls_needed b)

children_kept : (b : ℕ) (ts : Trees) → children_needed (with_nulls b ts) ≡ children_needed ts
children_kept b none = nulls_needed b
children_kept b (more t ts) = ap (λ n. if n == 0 then (if is_null t then 0 else 1) else suc n) (children_kept b ts)

-- nor do they change a prefix
prefix_kept : (n b : ℕ) (ts : Trees) → n ≤ tree_count ts → take_trees n (with_nulls b ts) ≡ take_trees n ts
prefix_kept zero b ts h = refl
prefix_kept (suc n) b none h = absurd (omega (arith, h))
prefix_kept (suc n) b (more t ts) h = ap (more t) (prefix_kept n b ts (omega (arith, h)))

nulls_trimmed : (b : ℕ) → trim_all (nulls b) ≡ nulls b
nulls_trimmed zero = refl
nulls_trimmed (suc b) = ap (more null) (nulls_trimmed b)

all_after : (b : ℕ) (ts : Trees) → trim_all (with_nulls b ts) ≡ with_nulls b (trim_all ts)
all_after b none = nulls_trimmed b
all_after b (more t ts) = ap (more (trim t)) (all_after b ts)

struct_alike : (a b : ℕ) (ws : List ℕ) (ts : Trees)
    → trim_struct (ws ++ replicate a 0) (with_nulls b ts) ≡ trim_struct ws ts
struct_alike a b ws ts =
    ap₂ struct
    (ap (λ n. take n (ws ++ replicate a 0)) (words_needed a ws)
    ∙ take-append-le (data_needed ws) ws (replicate a 0) (data_needed_le ws))
    (ap (λ n. take_trees n (with_nulls b ts)) (children_kept b ts)
    ∙ prefix_kept (children_needed ts) b ts (children_needed_le ts))

-- elements, each with a more zero words and b more nulls
abbrev extended : ℕ → ℕ → Trees → Trees
extended a b none = none
extended a b (more (struct ws ts) es) = more (struct (ws ++ replicate a 0) (with_nulls b ts)) (extended a b es)
extended a b (more t es) = more t (extended a b es)

data_kept : (a b : ℕ) (es : Trees) → data_of (extended a b es) ≡ data_of es
data_kept a b none = refl
data_kept a b (more (struct ws ts) es) = ap₂ max (words_needed a ws) (data_kept a b es)
data_kept a b (more t es) = data_kept a b es

pointers_kept : (a b : ℕ) (es : Trees) → children_of (extended a b es) ≡ children_of es
pointers_kept a b none = refl
pointers_kept a b (more (struct ws ts) es) = ap₂ max (children_kept b ts) (pointers_kept a b es)
pointers_kept a b (more t es) = pointers_kept a b es

cut_kept : (m n a b d p : ℕ) (es : Trees) → m ≤ d → n ≤ p → AreElementTrees d p es
    → cut_elements m n (extended a b es) ≡ cut_elements m n es
cut_kept m n a b d p none h k f = refl
cut_kept m n a b d p (more (struct ws ts) es) h k f =
    ap₂ more
    (ap₂ struct (take-append-le m ws (replicate a 0) (omega (arith, f.1))) (prefix_kept n b ts (omega (arith, f.2))))
    (cut_kept m n a b d p es h k f.4)
cut_kept m n a b d p (more t es) h k f = absurd f

structs_alike : (a b d p : ℕ) (es : Trees) → AreElementTrees d p es
    → trim_structs (extended a b es) ≡ trim_structs es
structs_alike a b d p es f =
    rw (data_kept a b es, pointers_kept a b es)
    (ap (structs (data_of es) (children_of es))
    (cut_kept (data_of es) (children_of es) a b d p es (data_within d p es f) (children_within d p es f) f))

mutual
  -- A tree that extends another one is trimmed to the same.
  pub extends_alike : (u t : Tree) → IsTree u → Extends t u → trim t ≡ trim u
  extends_alike null t f x = ap trim x
  extends_alike (cap i) t f x = ap trim x
  extends_alike (struct ws us) t f x =
      ap trim x.3 ∙ ap (trim_struct (ws ++ replicate x.0 0)) (all_after x.1 x.2 ∙ ap (with_nulls x.1) (each_alike us x.2 f.1 x.4))
      ∙ struct_alike x.0 x.1 ws (trim_all us)
  extends_alike (scalars c vs) t f x = ap trim x
  extends_alike (pointers us) t f x = ap trim x.1 ∙ ap pointers (each_alike us x.0 f x.2)
  extends_alike (structs d p es) t f x =
      ap trim x.3 ∙ ap trim_structs (elements_alike es x.0 x.1 d p x.2 f x.4)
      ∙ structs_alike x.0 x.1 d p (trim_elements es) (trimmed_are_elements d p es f)

  each_alike : (us ts : Trees) → AreTrees us → ExtendEach ts us → trim_all ts ≡ trim_all us
  each_alike none ts f x = ap trim_all x
  each_alike (more u us) ts f x =
      ap trim_all x.2 ∙ ap₂ more (extends_alike u x.0 f.0 x.3) (each_alike us x.1 f.1 x.4)

  elements_alike : (es : Trees) (a b d p : ℕ) (fs : Trees) → AreElementTrees d p es → ExtendElements a b fs es
      → trim_elements fs ≡ extended a b (trim_elements es)
  elements_alike none a b d p fs f x = ap trim_elements x
  elements_alike (more (struct ws us) es) a b d p fs f x =
      ap trim_elements x.2
      ∙ ap₂ (λ vs rest. more (struct (ws ++ replicate a 0) vs) rest)
      (all_after b x.0 ∙ ap (with_nulls b) (each_alike us x.0 f.3 x.3))
      (elements_alike es a b d p x.1 f.4 x.4)
  elements_alike (more t es) a b d p fs f x = absurd f
