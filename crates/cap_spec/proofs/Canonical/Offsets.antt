-- Each offset of a layout is smaller than the size of the tree.
use Rattle.cap_spec.proofs.ProofNames.{rules, List, arith, flat_map, ℕ, ◌*◌, ◌+◌, ◌<◌, ◌^◌, ◌≤◌, AllByRecursion}
use Rattle.cap_spec.proofs.ProofNames.{element_sizes, offsets, size, sizes, trim, Denotes, Tree, Trees, more, pointers}
use Rattle.cap_spec.proofs.ProofNames.{struct, structs, tree_count}
use Rattle.cap_spec.specs.Canonical.{element_offsets, element_offsets_below, offsets_below, pointer_offsets}
use Rattle.cap_spec.specs.Tree.{none}
use Rattle.cap_spec.proofs.Bytes.Lists.{all_append}
use Rattle.cap_spec.proofs.Canonical.ElementPlaces.{children_near, elements_only, rest_near, without_tag}
use Rattle.cap_spec.proofs.Canonical.Sizes.{trimmed_size_charged}
use Rattle.cap_spec.proofs.Canonical.TreeMeasures.{FitEach, FitElements, Fits, Measured, measured}
use Rattle.cap_spec.proofs.Canonical.TrimmedMeasures.{Trimmed, trimmed}

-- those of pointers in a row
row_offsets : (most after : ℕ) (ts : Trees) → after + tree_count ts + sizes ts < most
    → AllByRecursion (λ offset. offset < most) (pointer_offsets after ts)
row_offsets most after none h = tt
row_offsets most after (more t ts) h = (omega (arith, h), row_offsets most (after + size t) ts (omega (arith, h)))

-- those of elements in a row
elements_offsets : (most d p after : ℕ) (es : Trees) → FitElements d p es
    → after + tree_count es * (d + p) + element_sizes es < most
    → AllByRecursion (λ offset. offset < most) (flat_map (λ row. row) (element_offsets (d + p) after es))
elements_offsets most d p after (more (struct ws ts) es) f h =
    all_append (λ offset. offset < most) (pointer_offsets (tree_count es * (d + p) + after) ts)
    (flat_map (λ row. row) (element_offsets (d + p) (after + sizes ts) es))
    (search (rules, row_offsets, children_near))
    (elements_offsets most d p (after + sizes ts) es f.3
    (rest_near after (tree_count es) (d + p) (sizes ts) (element_sizes es) most h))
elements_offsets most d p after es f h = search rules

mutual
  -- at all nodes
  pub offsets_within : (most : ℕ) (t : Tree) → Fits t → size t < most
      → AllByRecursion (λ offset. offset < most) (offsets t)
  offsets_within most (struct ws ts) f h =
      all_append (λ offset. offset < most) (pointer_offsets 0 ts) (offsets_below ts)
      (row_offsets most 0 ts (omega (arith, h))) (offsets_below_within most ts f.2 (omega (arith, h)))
  offsets_within most (pointers ts) f h = all_append (λ offset. offset < most) (pointer_offsets 0 ts) (offsets_below ts)
      (row_offsets most 0 ts (omega (arith, h))) (offsets_below_within most ts f.1 (omega (arith, h)))
  offsets_within most (structs d p es) f h =
      all_append (λ offset. offset < most) (flat_map (λ row. row) (element_offsets (d + p) 0 es))
      (element_offsets_below es)
      (search (rules, elements_offsets, without_tag))
      (element_offsets_within most d p es f.4 (elements_only (tree_count es * (d + p)) (element_sizes es) most h))
  offsets_within most t f h = tt

  pub offsets_below_within : (most : ℕ) (ts : Trees) → FitEach ts → sizes ts < most
      → AllByRecursion (λ offset. offset < most) (offsets_below ts)
  offsets_below_within most none f h = tt
  offsets_below_within most (more t ts) f h =
      search (
        rules,
        all_append,
        offsets_below_within most ts f.1 (omega (arith, h)),
        offsets_within most t f.0 (omega (arith, h)),
      )

  pub element_offsets_within : (most d p : ℕ) (es : Trees) → FitElements d p es → element_sizes es < most
      → AllByRecursion (λ offset. offset < most) (element_offsets_below es)
  element_offsets_within most d p (more (struct ws ts) es) f h = search (
    rules,
    all_append,
    element_offsets_within most d p es f.3 (omega (arith, h)),
    offsets_below_within most ts f.2 (omega (arith, h)),
  )
  element_offsets_within most d p es f h = search rules

-- the offsets in the layout of what is denoted, trimmed, are below 2 ^ 29
pub offsets_fit : (m : List (List ℕ)) (s w : ℕ) (t : Tree) (c d : ℕ) → Denotes m s w t c d → c < 2 ^ 29
    → AllByRecursion (λ offset. offset < 2 ^ 29) (offsets (trim t))
offsets_fit m s w t c d h l =
    let a : Measured t c d = measured m s w t c d h in
    let b : Trimmed t (trim t) = trimmed t a.fits in
    let e : size (trim t) ≤ c = trimmed_size_charged m s w t c d h in
    offsets_within (2 ^ 29) (trim t) b.fits (omega arith)
