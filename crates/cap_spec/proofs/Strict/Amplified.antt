-- A message within its unamplified limit, of which the canonical copy isn't within its own:
-- a list of structs whose words are all zero.
use Rattle.cap_spec.specs.Tree.{none}
use Rattle.cap_spec.proofs.Canonical.Layouts.{layout_denotes}
use Rattle.cap_spec.proofs.Canonical.Sizes.{length-content}
use Rattle.cap_spec.proofs.Canonical.TreeMeasures.{FitElements, Fits, cost, element_costs, height}
use Rattle.cap_spec.proofs.ProofNames.{List, [], ap, arith, false, length, refl, suc, sum, sym, zero, ℕ, ◌+◌, ◌<◌, ◌^◌}
use Rattle.cap_spec.proofs.ProofNames.{◌∷◌, ◌≡◌, ◌≤◌, children_of, cut_elements, data_of, element_sizes, layout, size}
use Rattle.cap_spec.proofs.ProofNames.{trim, trim_elements, HasCopy, Denotes, sizes_of, Tree, Trees, cap_counts}
use Rattle.cap_spec.proofs.ProofNames.{has_cap, more, struct, structs, tree_count, unamplified, rules}
use Rattle.cap_spec.proofs.Trees.OneTree.{one_tree}

-- n structs of these words
alike : List ℕ → ℕ → Trees
alike ws zero = none
alike ws (suc n) = more (struct ws none) (alike ws n)

-- their numbers
count-alike : (ws : List ℕ) (n : ℕ) → tree_count (alike ws n) ≡ n
unfolding alike
count-alike ws zero = refl
count-alike ws (suc n) = ap suc (count-alike ws n)

costs-alike : (ws : List ℕ) (n : ℕ) → element_costs (alike ws n) ≡ 0
unfolding alike
costs-alike ws zero = refl
costs-alike ws (suc n) = omega (arith, costs-alike ws n)

sizes-alike : (ws : List ℕ) (n : ℕ) → element_sizes (alike ws n) ≡ 0
unfolding alike
sizes-alike ws zero = refl
sizes-alike ws (suc n) = omega (arith, sizes-alike ws n)

caps-alike : (ws : List ℕ) (n : ℕ) → cap_counts (alike ws n) ≡ 0
unfolding alike
caps-alike ws zero = refl
caps-alike ws (suc n) = omega (arith, caps-alike ws n)

fit-alike : (ws : List ℕ) (n : ℕ) → FitElements (length ws) 0 (alike ws n)
unfolding alike
fit-alike ws zero = tt
fit-alike ws (suc n) = (refl, refl, tt, fit-alike ws n)

-- trimmed, those of a zero word are those without words
trim-alike : (n : ℕ) → trim_elements (alike (0 ∷ []) n) ≡ alike (0 ∷ []) n
unfolding alike
trim-alike zero = refl
trim-alike (suc n) = ap (λ (ts : Trees). more (struct (0 ∷ []) none) ts) (trim-alike n)

data-alike : (n : ℕ) → data_of (alike (0 ∷ []) n) ≡ 0
unfolding alike
data-alike zero = refl
data-alike (suc n) = omega (arith, data-alike n)

children-alike : (n : ℕ) → children_of (alike (0 ∷ []) n) ≡ 0
unfolding alike
children-alike zero = refl
children-alike (suc n) = omega (arith, children-alike n)

cut-alike : (n : ℕ) → cut_elements 0 0 (alike (0 ∷ []) n) ≡ alike [] n
unfolding alike
cut-alike zero = refl
cut-alike (suc n) = ap (λ (ts : Trees). more (struct [] none) ts) (cut-alike n)

trimmed-alike : (n : ℕ) → trim (structs 1 0 (alike (0 ∷ []) n)) ≡ structs 0 0 (alike [] n)
trimmed-alike n = rw (trim-alike n, data-alike n, children-alike n, cut-alike n) refl

-- a list of such structs
wide : ℕ → Tree
wide n = structs 1 0 (alike (0 ∷ []) n)

bare : ℕ → Tree
bare n = structs 0 0 (alike [] n)

trim-wide : (n : ℕ) → trim (wide n) ≡ bare n
unfolding wide bare
trim-wide n = trimmed-alike n

fits-wide : (n : ℕ) → n < 2 ^ 29 → Fits (wide n)
unfolding wide
fits-wide n h = search (rules, count-alike, fit-alike (0 ∷ []) n)

fits-bare : (n : ℕ) → n < 2 ^ 29 → Fits (bare n)
unfolding bare
fits-bare n h = search (rules, count-alike, fit-alike [] n)

size-wide : (n : ℕ) → size (wide n) ≡ 1 + n
unfolding wide
size-wide n = omega (arith, count-alike (0 ∷ []) n, sizes-alike (0 ∷ []) n)

size-bare : (n : ℕ) → size (bare n) ≡ 1
unfolding bare
size-bare n = omega (arith, sizes-alike [] n)

cost-wide : (n : ℕ) → cost (wide n) ≡ 1 + n
unfolding wide
cost-wide n = omega (arith, count-alike (0 ∷ []) n, costs-alike (0 ∷ []) n)

-- each element without words is charged one word
cost-bare : (n : ℕ) → cost (bare n) ≡ 1 + n
unfolding bare
cost-bare n = omega (arith, count-alike [] n, costs-alike [] n)

no_caps-wide : (n : ℕ) → has_cap (wide n) ≡ false
unfolding wide
no_caps-wide n = rw (caps-alike (0 ∷ []) n) refl

-- The layout of the list has a word for each struct, and that of the trimmed list has two words.
length-wide : (n : ℕ) → n < 2 ^ 29 → sum (sizes_of (layout (wide n) ∷ [])) ≡ n + 2
length-wide n h = omega (arith, length-content (wide n) (fits-wide n h), size-wide n)

length-bare : (n : ℕ) → n < 2 ^ 29 → sum (sizes_of (layout (bare n) ∷ [])) ≡ 2
length-bare n h = omega (arith, length-content (bare n) (fits-bare n h), size-bare n)

-- What is found of n structs.
amplified_by : (n : ℕ) → n < 2 ^ 28 → 4098 ≤ n
    → (m : List (List ℕ)) × (words : List ℕ) × (copy : HasCopy m words)
    × ((limit : ℕ) → copy.charge ≤ limit → copy.charge ≤ unamplified m limit)
    × ((limit : ℕ) (t : Tree) (c d : ℕ) → Denotes (words ∷ []) 0 0 t c d → unamplified (words ∷ []) limit < c)
amplified_by n few many =
    let w : n < 2 ^ 29 = omega (arith, few) in
    let h : Denotes (layout (wide n) ∷ []) 0 0 (wide n) (cost (wide n)) (height (wide n)) =
    layout_denotes (wide n) (fits-wide n w) (omega (arith, size-wide n, few)) in
    let g : Denotes (layout (bare n) ∷ []) 0 0 (bare n) (cost (bare n)) (height (bare n)) =
    layout_denotes (bare n) (fits-bare n w) (omega (arith, size-bare n)) in (
      layout (wide n) ∷ [],
      layout (bare n),
      record {
        tree = wide n;
        charge = cost (wide n);
        depth = height (wide n);
        denotes = h;
        no_caps = no_caps-wide n;
        laid = ap layout (sym (trim-wide n));
      },
      (λ limit le. omega (arith, le, length-wide n w, cost-wide n)),
      (λ limit t c d k.
          let same = one_tree (layout (bare n) ∷ []) 0 0 t (bare n) c d (cost (bare n)) (height (bare n)) k g in
          omega (arith, same.charge, length-bare n w, cost-bare n, many)),
    )

-- So it is of 5,000 structs.
pub amplified_copy : (m : List (List ℕ)) × (words : List ℕ) × (copy : HasCopy m words)
    × ((limit : ℕ) → copy.charge ≤ limit → copy.charge ≤ unamplified m limit)
    × ((limit : ℕ) (t : Tree) (c d : ℕ) → Denotes (words ∷ []) 0 0 t c d → unamplified (words ∷ []) limit < c)
amplified_copy = amplified_by 5000 (omega arith) (omega arith)
