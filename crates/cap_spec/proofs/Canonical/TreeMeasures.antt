-- How much a tree is charged without pads, how deep it is, and that its sizes fit the fields of pointer words:
-- of what is denoted, and of the trimmed tree.
use Rattle.cap_spec.proofs.ProofNames.{rules, common_steps, List, ap, arith, if◌then◌else◌, length, max, ne_eqb, refl}
use Rattle.cap_spec.proofs.ProofNames.{sym, ℕ, ◌*◌, ◌+◌, ◌<◌, ◌==◌, ◌^◌, ◌∙◌, ◌≡◌, ◌≤◌, AllByRecursion, ⊤, AreElements}
use Rattle.cap_spec.proofs.ProofNames.{DenoteEach, Denotes, FindsCharged, element_levels, values_of, extra, segment_of}
use Rattle.cap_spec.proofs.ProofNames.{HasKind, code, element_bits, extent, kind, list_size, list_words, middle, Tree}
use Rattle.cap_spec.proofs.ProofNames.{Trees, cap, more, null, pointers, scalars, struct, structs, tree_count, Scalars}
use Rattle.cap_spec.proofs.ProofNames.{Structs}
use Rattle.cap_spec.specs.Denoting.{places}
use Rattle.cap_spec.specs.Tree.{none}
use Rattle.cap_spec.proofs.Pointers.Shapes.{scalars_levels, scalars_shape, scalars_words}
use Rattle.cap_spec.proofs.Trees.Charges.{each_charged, length-places}
use Rattle.cap_spec.proofs.Trees.DenotedTrees.{cap_fits, elements_inside, range_length, values_fit}
use Rattle.cap_spec.proofs.Trees.Readings.{length-values}

-- one for each element that takes no words
abbrev pub idle : ℕ → ℕ → ℕ
idle words n = if words == 0 then n else 0

abbrev mutual
  -- what a tree is charged where no pads lead to its parts
  pub cost : Tree → ℕ
  cost null = 0
  cost (cap i) = 0
  cost (struct words ts) = length words + tree_count ts + costs ts
  cost (scalars c vs) = list_words c (length vs) + idle c (length vs)
  cost (pointers ts) = tree_count ts + costs ts
  cost (structs d p es) = 1 + tree_count es * (d + p) + idle (d + p) (tree_count es) + element_costs es

  pub costs : Trees → ℕ
  costs none = 0
  costs (more t ts) = cost t + costs ts

  pub element_costs : Trees → ℕ
  element_costs none = 0
  element_costs (more (struct words ts) es) = costs ts + element_costs es
  element_costs (more t es) = element_costs es

abbrev mutual
  -- the depth of a tree
  pub height : Tree → ℕ
  height null = 0
  height (cap i) = 0
  height (struct words ts) = 1 + heights ts
  height (scalars c vs) = 1
  height (pointers ts) = 1 + heights ts
  height (structs d p es) = 1 + element_levels (tree_count es) + element_heights es

  pub heights : Trees → ℕ
  heights none = 0
  heights (more t ts) = max (height t) (heights ts)

  pub element_heights : Trees → ℕ
  element_heights none = 0
  element_heights (more (struct words ts) es) = max (heights ts) (element_heights es)
  element_heights (more t es) = element_heights es

abbrev mutual
  -- its sizes and values fit the fields of words
  pub Fits : Tree → Type 0
  Fits null = ⊤
  Fits (cap i) = i < 2 ^ 32
  Fits (struct words ts) = (length words < 2 ^ 16) × (tree_count ts < 2 ^ 16) × FitEach ts
  Fits (scalars c vs) = (c < 6) × (length vs < 2 ^ 29) × AllByRecursion (λ v. v < 2 ^ element_bits c) vs
  Fits (pointers ts) = (tree_count ts < 2 ^ 29) × FitEach ts
  Fits (structs d p es) = (d < 2 ^ 16) × (p < 2 ^ 16) × (tree_count es < 2 ^ 30) × (tree_count es * (d + p) < 2 ^ 29)
      × FitElements d p es

  pub FitEach : Trees → Type 0
  FitEach none = ⊤
  FitEach (more t ts) = Fits t × FitEach ts

  pub FitElements : ℕ → ℕ → Trees → Type 0
  FitElements d p none = ⊤
  FitElements d p (more (struct words ts) es) = (length words ≡ d) × (tree_count ts ≡ p) × FitEach ts
      × FitElements d p es
  FitElements d p (more t es) = ⊥

-- what is known of a tree that a word denotes
pub record Measured (t : Tree) (c d : ℕ) : Type 0 where
  pub fits : Fits t
  pub charged : cost t ≤ c
  pub deep : height t ≡ d

pub record EachMeasured (ts : Trees) (c d : ℕ) : Type 0 where
  pub fits : FitEach ts
  pub charged : costs ts ≤ c
  pub deep : heights ts ≡ d

pub record ElementsMeasured (ds ps n : ℕ) (es : Trees) (c d : ℕ) : Type 0 where
  pub fits : FitElements ds ps es
  pub count : tree_count es ≡ n
  pub charged : element_costs es ≤ c
  pub deep : element_heights es ≡ d

-- the words of a list of values
pub extent_scalars : (q e : ℕ) → kind q ≡ 1 → e ≡ code q → e < 6 → extent q ≡ list_words e (list_size q)
extent_scalars q e k f lt = rw (k, f, ne_eqb (code q) 7 (λ z. absurd (omega (arith, f, lt, z)))) refl

-- fields fit their bits
long_fits : (q : ℕ) → (list_size q < 2 ^ 29) × (middle q < 2 ^ 30)
long_fits q = (omega arith, omega arith)

-- the cost of a list of values beside its words, and that of a list of structs
pub scalars_extra : {q tag e n : ℕ} → HasKind q tag (Scalars e n) → extra q tag ≡ idle e n
scalars_extra {q} {tag} {e} {n} h = search rules

pub structs_extra : {q tag n ds ps : ℕ} → HasKind q tag (Structs n ds ps) → extra q tag ≡ idle (ds + ps) n
structs_extra {q} {tag} {n} {ds} {ps} h = search rules

-- a list of values that is found
scalars_measured : {m : List (List ℕ)} {s w e k t b q tag n c d : ℕ} (vs : List ℕ)
    → FindsCharged m s w (Scalars e n) k t b q tag 0 0 c d → vs ≡ values_of m t b e n → Measured (scalars e vs) c d
scalars_measured {m} {s} {w} {e} {k} {t} {b} {q} {tag} {n} {c} {d} vs f own =
    let h = f.object.shape in
    let x = scalars_shape h in
    let l : length vs ≡ n = ap length own ∙ length-values m t b e n in
    let y : extent q ≡ list_words e (length vs) = scalars_words h ∙ ap (list_words e) (sym l) in
    let z : extra q tag ≡ idle e (length vs) = scalars_extra h ∙ ap (idle e) (sym l) in
    let u = long_fits q in
    record {
      fits = (
        x.scalar,
        omega (arith, l, x.count, u.0),
        rw own (values_fit (segment_of m t) b (element_bits e) 0 n),
      );
      charged = sum_above k (extent q) (extra q tag) (list_words e (length vs)) (idle e (length vs)) c f.charge y z;
      deep = omega (arith, f.depth, scalars_levels h);
    }
  where
    sum_above : (k a b a' b' c : ℕ) → c ≡ k + a + b + 0 → a ≡ a' → b ≡ b' → a' + b' ≤ c
    sum_above k a b a' b' c e1 e2 e3 = omega arith

mutual
  -- what a word denotes is charged its cost at least, is as deep as reported, and fits
  pub measured : (m : List (List ℕ)) (s w : ℕ) (t : Tree) (c d : ℕ) → Denotes m s w t c d → Measured t c d
  measured m s w null c d h = record { fits = tt; charged = omega arith; deep = sym h.1 }
  measured m s w (cap i) c d h = record { fits = cap_fits m s w c i h.0; charged = omega arith; deep = sym h.1 }
  measured m s w (struct words ts) c d (k, t, b, q, tag, ds, ps, inner, deep, found, own, each) =
      grind (
        arith,
        common_steps,
        each_charged,
        length-places,
        each_measured m (places t (b + ds) ps) ts inner deep each,
      )
  measured m s w (scalars e vs) c d (k, t, b, q, tag, n, found, own) = scalars_measured vs found own
  measured m s w (pointers ts) c d (k, t, b, q, tag, n, inner, deep, found, each) =
      search (rules, each_charged, length-places, each_measured m (places t b n) ts inner deep each)
  measured m s w (structs ds ps es) c d (k, t, b, q, tag, n, inner, deep, found, each) =
      search (rules, elements_measured m t (b + 1) ds ps n es inner deep (elements_inside found.object) each)

  pub each_measured : (m : List (List ℕ)) (ps : List (ℕ × ℕ)) (ts : Trees) (c d : ℕ) → DenoteEach m ps ts c d
      → EachMeasured ts c d
  each_measured m ps none c d h = record { fits = tt; charged = omega arith; deep = sym h.2 }
  each_measured m ps (more t ts) c d (s, w, rest, c1, d1, c2, d2, begins, denotes, after, charge, depth) =
      search (rules, each_measured m rest ts c2 d2 after, measured m s w t c1 d1 denotes)

  pub elements_measured : (m : List (List ℕ)) (t b ds ps n : ℕ) (es : Trees) (c d : ℕ)
      → b + n * ds + n * ps ≤ length (segment_of m t)
      → AreElements m t b ds ps n es c d → ElementsMeasured ds ps n es c d
  elements_measured m t b ds ps n (more (struct words ts) es) c d le h =
      let (fewer, c1, d1, c2, d2, counted, own, each, after, charge, depth) = h in
      let x : n * ds ≡ ds + fewer * ds = rw counted (omega arith) in
      let y : n * ps ≡ ps + fewer * ps = rw counted (omega arith) in
      search (
        rules,
        range_length,
        each_charged,
        length-places,
        elements_measured m t (b + ds + ps) ds ps fewer es c2 d2 (omega (arith, le, x, y)) after,
        each_measured m (places t (b + ds) ps) ts c1 d1 each,
      )
  elements_measured m t b ds ps n es c d le h = omega arith
