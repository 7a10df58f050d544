-- How many words a layout has.
use Rattle.cap_spec.proofs.ProofNames.{rules}
use Rattle.std.proofs.Common.{List, ap, arith, length, length-append, refl, suc, ℕ, ◌*◌, ◌+◌, ◌≡◌, ◌≤◌}
use Rattle.cap_spec.specs.Canonical.{content, contents, element_contents, element_sizes, element_words, layout}
use Rattle.cap_spec.specs.Canonical.{pointer_words, size, sizes, trim}
use Rattle.cap_spec.specs.Denoting.{Denotes}
use Rattle.cap_spec.specs.Tree.{Tree, Trees, more, none, pointers, scalars, struct, structs, tree_count}
use Rattle.cap_spec.proofs.Canonical.TreeMeasures.{FitEach, FitElements, Fits, Measured, cost, costs, element_costs}
use Rattle.cap_spec.proofs.Canonical.TreeMeasures.{measured}
use Rattle.cap_spec.proofs.Canonical.TrimmedMeasures.{Trimmed, trimmed}
use Rattle.cap_spec.proofs.Trees.ReadingBack.{length-scalar_words}

-- one pointer word for each tree
pub length-pointer_words : (after : ℕ) (ts : Trees) → length (pointer_words after ts) ≡ tree_count ts
length-pointer_words after none = refl
length-pointer_words after (more t ts) = ap suc (length-pointer_words (after + size t) ts)

-- elements of one size
pub length-element_words : (each after d p : ℕ) (es : Trees) → FitElements d p es
    → length (element_words each after es) ≡ tree_count es * (d + p)
length-element_words each after d p (more (struct words ts) es) f =
    search (rules, length-append, length-pointer_words, length-element_words each (after + sizes ts) d p es f.3)
length-element_words each after d p es f = omega arith

-- the parts of a struct list's content
total : (x e c n s : ℕ) → x ≡ e + c → e ≡ n → c ≡ s → suc x ≡ 1 + n + s
total x e c n s e1 e2 e3 = omega arith

mutual
  -- the content of a tree has as many words as its size gives
  pub length-content : (t : Tree) → Fits t → length (content t) ≡ size t
  length-content (struct words ts) f = search (rules, length-append, length-pointer_words, length-contents ts f.2)
  length-content (scalars c vs) f = length-scalar_words c vs
  length-content (pointers ts) f = search (rules, length-append, length-pointer_words, length-contents ts f.1)
  length-content (structs d p es) f =
      search (rules, length-append, total, length-element_words, length-element_contents d p es f.4)
  length-content t f = refl

  pub length-contents : (ts : Trees) → FitEach ts → length (contents ts) ≡ sizes ts
  length-contents none f = refl
  length-contents (more t ts) f = search (rules, length-append, length-contents ts f.1, length-content t f.0)

  pub length-element_contents : (d p : ℕ) (es : Trees) → FitElements d p es
      → length (element_contents es) ≡ element_sizes es
  length-element_contents d p (more (struct words ts) es) f =
      search (rules, length-append, length-element_contents d p es f.3, length-contents ts f.2)
  length-element_contents d p es f = search rules

mutual
  -- words are charged
  pub size_charged : (t : Tree) → size t ≤ cost t
  size_charged (struct words ts) = omega (arith, sizes_charged ts)
  size_charged (pointers ts) = omega (arith, sizes_charged ts)
  size_charged (structs d p es) = search (rules, element_sizes_charged es)
  size_charged t = omega arith

  pub sizes_charged : (ts : Trees) → sizes ts ≤ costs ts
  sizes_charged none = omega arith
  sizes_charged (more t ts) = omega (arith, sizes_charged ts, size_charged t)

  pub element_sizes_charged : (es : Trees) → element_sizes es ≤ element_costs es
  element_sizes_charged none = omega arith
  element_sizes_charged (more (struct words ts) es) = omega (arith, element_sizes_charged es, sizes_charged ts)
  element_sizes_charged (more t es) = element_sizes_charged es

-- the size of what is denoted, trimmed, is charged
pub trimmed_size_charged : (m : List (List ℕ)) (s w : ℕ) (t : Tree) (c d : ℕ) → Denotes m s w t c d → size (trim t) ≤ c
trimmed_size_charged m s w t c d h =
    let a : Measured t c d = measured m s w t c d h in
    let b : Trimmed t (trim t) = trimmed t a.fits in
    omega (arith, size_charged)

-- the layout of what is denoted, trimmed, has at most one word more than the charge
pub layout_charged : (m : List (List ℕ)) (s w : ℕ) (t : Tree) (c d : ℕ) → Denotes m s w t c d
    → length (layout (trim t)) ≤ c + 1
layout_charged m s w t c d h = search (rules, measured, trimmed, size, length-content, trimmed_size_charged)
