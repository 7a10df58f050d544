-- A trimmed tree costs no more, is as deep, and fits where the tree fits.
use Rattle.std.proofs.Common.{List, [], ap, ap₂, arith, if◌then◌else◌, length, length-take, refl, suc, sym, zero, ℕ}
use Rattle.std.proofs.Common.{◌*◌, ◌+◌, ◌<◌, ◌==◌, ◌^◌, ◌∙◌, ◌∷◌, ◌≡◌, ◌≤◌, rules}
use Rattle.std.proofs.lemmas.Nat.{mul-le}
use Rattle.cap_spec.specs.Canonical.{children_needed, children_of, cut_elements, data_needed, data_of, take_trees, trim}
use Rattle.cap_spec.specs.Canonical.{trim_all, trim_elements, trim_struct, trim_structs}
use Rattle.cap_spec.specs.Denoting.{element_levels}
use Rattle.cap_spec.specs.Tree.{Tree, Trees, cap, more, none, null, pointers, scalars, struct, structs, tree_count}
use Rattle.cap_spec.proofs.Canonical.TreeMeasures.{FitEach, FitElements, Fits, cost, costs, element_costs}
use Rattle.cap_spec.proofs.Canonical.TreeMeasures.{element_heights, height, heights, idle}
use Rattle.cap_spec.proofs.Canonical.Trimming.{rest_below}

-- none are needed where none are needed of the rest and the first isn't
pub none_left : (n x : ℕ) → (if n == 0 then x else suc n) ≤ 0 → (n ≤ 0) × (x ≤ 0)
none_left zero x h = (omega arith, h)
none_left (suc n) x h = search rules

-- no more words are needed than there are
pub data_needed_le : (ws : List ℕ) → data_needed ws ≤ length ws
data_needed_le [] = omega arith
data_needed_le (x ∷ xs) = search (rules, data_needed_le xs)

-- no more children are needed than there are
pub children_needed_le : (ts : Trees) → children_needed ts ≤ tree_count ts
children_needed_le none = omega arith
children_needed_le (more t ts) = search (rules, children_needed_le ts)

-- a prefix of trees: how many, what they cost, and that they fit
tree_count-take : (n : ℕ) (ts : Trees) → tree_count (take_trees n ts) ≤ tree_count ts
tree_count-take (suc n) (more t ts) = omega (arith, tree_count-take n ts)
tree_count-take n ts = omega arith

pub tree_count-take_le : (n : ℕ) (ts : Trees) → n ≤ tree_count ts → tree_count (take_trees n ts) ≡ n
tree_count-take_le (suc n) (more t ts) h = ap suc (tree_count-take_le n ts (omega (arith, h)))
tree_count-take_le n ts h = search rules

costs-take : (n : ℕ) (ts : Trees) → costs (take_trees n ts) ≤ costs ts
costs-take (suc n) (more t ts) = omega (arith, costs-take n ts)
costs-take n ts = omega arith

fits-take : (n : ℕ) (ts : Trees) → FitEach ts → FitEach (take_trees n ts)
fits-take (suc n) (more t ts) f = (f.0, fits-take n ts f.1)
fits-take n ts f = tt

-- trees of which none are needed are as flat as none
flat : (ts : Trees) → children_needed ts ≤ 0 → heights ts ≡ 0
flat (more null ts) h = search (rules, none_left, flat ts)
flat ts h = search rules

-- where all that are needed are left, the rest are as deep as all
heights-take : (n : ℕ) (ts : Trees) → children_needed ts ≤ n → heights (take_trees n ts) ≡ heights ts
heights-take zero ts h = sym (flat ts h)
heights-take (suc n) none h = refl
heights-take (suc n) (more t ts) h = search (rules, rest_below, heights-take n ts)

-- the same of the elements of a struct list
pub tree_count-cut : (d p : ℕ) (es : Trees) → tree_count (cut_elements d p es) ≡ tree_count es
tree_count-cut d p none = refl
tree_count-cut d p (more (struct words ts) es) = ap suc (tree_count-cut d p es)
tree_count-cut d p (more t es) = ap suc (tree_count-cut d p es)

-- elements of one size, cut to a smaller one
cut_costs : (d p x y : ℕ) (es : Trees) → FitElements x y es → element_costs (cut_elements d p es) ≤ element_costs es
cut_costs d p x y (more (struct words ts) es) f = omega (arith, costs-take, cut_costs d p x y es f.3)
cut_costs d p x y es f = omega arith

cut_fits : (d p x y : ℕ) (es : Trees) → d ≤ x → p ≤ y → FitElements x y es → FitElements d p (cut_elements d p es)
cut_fits d p x y (more (struct words ts) es) hd hp f =
    search (rules, tree_count-take_le, fits-take, cut_fits d p x y es hd hp f.3)
cut_fits d p x y es hd hp f = search rules

cut_heights : (d p x y : ℕ) (es : Trees) → children_of es ≤ p → FitElements x y es
    → element_heights (cut_elements d p es) ≡ element_heights es
cut_heights d p x y (more (struct words ts) es) h f =
    omega (arith, heights-take, cut_heights d p x y es (omega (arith, h)) f.3)
cut_heights d p x y es h f = search rules

-- no element needs more than its size
data_of_le : (d p : ℕ) (es : Trees) → FitElements d p es → data_of es ≤ d
data_of_le d p none f = omega arith
data_of_le d p (more (struct words ts) es) f =
    let a = data_needed_le words in let r = data_of_le d p es f.3 in omega (arith, a, r, f.0)
data_of_le d p (more t es) f = absurd f

children_of_le : (d p : ℕ) (es : Trees) → FitElements d p es → children_of es ≤ p
children_of_le d p (more (struct words ts) es) f = omega (arith, children_needed_le, children_of_le d p es f.3)
children_of_le d p es f = omega arith

-- elements without words cost no more than they did with words
smaller : (n a b : ℕ) → a ≤ b → n * a + idle a n ≤ n * b + idle b n
smaller n a b h = search rules

-- a trimmed tree, or trees, beside what it was
pub record Trimmed (t u : Tree) : Type 0 where
  pub fits : Fits u
  pub charged : cost u ≤ cost t
  pub deep : height u ≡ height t

pub record AllTrimmed (ts us : Trees) : Type 0 where
  pub count : tree_count us ≡ tree_count ts
  pub fits : FitEach us
  pub charged : costs us ≤ costs ts
  pub deep : heights us ≡ heights ts

pub record ElementsTrimmed (d p : ℕ) (es us : Trees) : Type 0 where
  pub count : tree_count us ≡ tree_count es
  pub fits : FitElements d p us
  pub charged : element_costs us ≤ element_costs es
  pub deep : element_heights us ≡ element_heights es

-- a struct of trimmed children
struct_trimmed : (words : List ℕ) (ts us : Trees) → Fits (struct words ts) → AllTrimmed ts us
    → Trimmed (struct words ts) (trim_struct words us)
struct_trimmed words ts us f r = search (rules, length-take, tree_count-take, costs-take, fits-take, heights-take)

-- a struct list of elements with trimmed children
structs_trimmed : (d p : ℕ) (es us : Trees) → Fits (structs d p es) → ElementsTrimmed d p es us
    → Trimmed (structs d p es) (trim_structs us)
structs_trimmed d p es us f r =
    let x : data_of us ≤ d = data_of_le d p us r.fits in
    let c : element_costs (cut_elements (data_of us) (children_of us) us) ≤ element_costs es =
    (let g = cut_costs (data_of us) (children_of us) d p us r.fits in omega (arith, g, r.charged)) in
    let h : element_heights (cut_elements (data_of us) (children_of us) us) ≡ element_heights es =
    cut_heights (data_of us) (children_of us) d p us (omega arith) r.fits ∙ r.deep in
    search (rules, cut_fits, structs_beside, tree_count-cut, children_of_le)
  where
    below : (a b n : ℕ) → a ≤ b → b < n → a < n
    below a b n h g = omega arith

    sums : (a b e a' b' e' : ℕ) → a + b ≤ a' + b' → e ≤ e' → 1 + a + b + e ≤ 1 + a' + b' + e'
    sums a b e a' b' e' h g = omega arith

    structs_beside : (d p : ℕ) (es : Trees) (d' p' : ℕ) (us : Trees) → d' ≤ d → p' ≤ p → tree_count us ≡ tree_count es
        → element_costs us ≤ element_costs es
        → element_heights us ≡ element_heights es → Fits (structs d p es) → FitElements d' p' us
        → Trimmed (structs d p es) (structs d' p' us)
    structs_beside d p es d' p' us x y n c h f g =
        let l = smaller (tree_count es) (d' + p') (d + p) (omega arith) in
        let i = mul-le (tree_count es) (d' + p') (tree_count es) (d + p) (omega arith) (omega arith) in
        record {
          fits = (
            omega (arith, x, f.0),
            omega (arith, y, f.1),
            omega (arith, n, f.2),
            rw n (below (tree_count es * (d' + p')) (tree_count es * (d + p)) (2 ^ 29) i f.3),
            g,
          );
          charged = rw n (sums (tree_count es * (d' + p')) (idle (d' + p') (tree_count es)) (element_costs us)
              (tree_count es * (d + p)) (idle (d + p) (tree_count es)) (element_costs es) l c);
          deep = ap₂ (λ k e. 1 + element_levels k + e) n h;
        }

mutual
  -- a trimmed tree fits, costs no more and is as deep
  pub trimmed : (t : Tree) → Fits t → Trimmed t (trim t)
  trimmed null f = record { fits = tt; charged = omega arith; deep = refl }
  trimmed (cap i) f = record { fits = f; charged = omega arith; deep = refl }
  trimmed (struct words ts) f = struct_trimmed words ts (trim_all ts) f (all_trimmed ts f.2)
  trimmed (scalars c vs) f = record { fits = f; charged = omega arith; deep = refl }
  trimmed (pointers ts) f = search (rules, all_trimmed ts f.1)
  trimmed (structs d p es) f = structs_trimmed d p es (trim_elements es) f (elements_trimmed d p es f.4)

  pub all_trimmed : (ts : Trees) → FitEach ts → AllTrimmed ts (trim_all ts)
  all_trimmed none f = record { count = refl; fits = tt; charged = omega arith; deep = refl }
  all_trimmed (more t ts) f = search (rules, all_trimmed ts f.1, trimmed t f.0)

  pub elements_trimmed : (d p : ℕ) (es : Trees) → FitElements d p es → ElementsTrimmed d p es (trim_elements es)
  elements_trimmed d p none f = record { count = refl; fits = tt; charged = omega arith; deep = refl }
  elements_trimmed d p (more (struct words ts) es) f = search (rules, elements_trimmed d p es f.3, all_trimmed ts f.2)
  elements_trimmed d p (more t es) f = absurd f
