-- The trimmed tree and the words of its one layout (standard: Canonicalization). These rules are the profile's.
-- A null root is the word 0, and a root may be a list. A pointer over landing pads to null counts as null.
-- Nulls at the end of a list of pointers stay. Surplus words of a list of structs are left out. A list of structs
-- without elements has sizes 0 in its tag. The pointer to a struct without words has the offset -1. The pointer to
-- a list without words leads to where its first word would be. The bits after a list's last value are zero.
-- A tree with a capability has no canonical form.
use Rattle.std.specs.Prelude.{Bool, List, [], false, flat_map, if◌then◌else◌, length, max, suc, take, true, zero, ℕ}
use Rattle.std.specs.Prelude.{◌*◌, ◌++◌, ◌+◌, ◌-◌, ◌==◌, ◌^◌, ◌∷◌}
use Rattle.cap_spec.specs.Pointers.{list_words}
use Rattle.cap_spec.specs.Scalars.{scalar_words}
use Rattle.cap_spec.specs.Tree.{Tree, Trees, cap, more, none, null, pointers, scalars, struct, structs, tree_count}

-- how many words are left when the zeros at the end are cut
abbrev pub data_needed : List ℕ → ℕ
data_needed [] = 0
data_needed (x ∷ xs) = if data_needed xs == 0 then (if x == 0 then 0 else 1) else suc (data_needed xs)

abbrev pub is_null : Tree → Bool
is_null null = true
is_null _ = false

-- how many children are left when the nulls at the end are cut
abbrev pub children_needed : Trees → ℕ
children_needed none = 0
children_needed (more t ts) = if children_needed ts == 0 then (if is_null t then 0 else 1) else suc (children_needed ts)

abbrev pub take_trees : ℕ → Trees → Trees
take_trees zero ts = none
take_trees (suc n) none = none
take_trees (suc n) (more t ts) = more t (take_trees n ts)

-- the sizes that no element of a list can do without
abbrev pub data_of : Trees → ℕ
data_of none = 0
data_of (more (struct words ts) es) = max (data_needed words) (data_of es)
data_of (more _ es) = data_of es

abbrev pub children_of : Trees → ℕ
children_of none = 0
children_of (more (struct words ts) es) = max (children_needed ts) (children_of es)
children_of (more _ es) = children_of es

-- all elements cut to these sizes
abbrev pub cut_elements : ℕ → ℕ → Trees → Trees
cut_elements d p none = none
cut_elements d p (more (struct words ts) es) = more (struct (take d words) (take_trees p ts)) (cut_elements d p es)
cut_elements d p (more t es) = more t (cut_elements d p es)

-- of trimmed children
abbrev pub trim_struct : List ℕ → Trees → Tree
trim_struct words ts = struct (take (data_needed words) words) (take_trees (children_needed ts) ts)

-- of elements whose children are trimmed
abbrev pub trim_structs : Trees → Tree
trim_structs es = structs (data_of es) (children_of es) (cut_elements (data_of es) (children_of es) es)

abbrev mutual
  pub trim : Tree → Tree
  trim null = null
  trim (cap i) = cap i
  trim (struct words ts) = trim_struct words (trim_all ts)
  trim (scalars c vs) = scalars c vs
  trim (pointers ts) = pointers (trim_all ts)
  trim (structs d p es) = trim_structs (trim_elements es)

  pub trim_all : Trees → Trees
  trim_all none = none
  trim_all (more t ts) = more (trim t) (trim_all ts)

  -- the children of each element trimmed, the elements not yet cut
  pub trim_elements : Trees → Trees
  trim_elements none = none
  trim_elements (more (struct words ts) es) = more (struct words (trim_all ts)) (trim_elements es)
  trim_elements (more t es) = more t (trim_elements es)

-- pointer words
abbrev pub struct_word : ℕ → ℕ → ℕ → ℕ
struct_word offset d p = 4 * offset + 2 ^ 32 * d + 2 ^ 48 * p

abbrev pub list_word : ℕ → ℕ → ℕ → ℕ
list_word offset c n = 1 + 4 * offset + 2 ^ 32 * c + 2 ^ 35 * n

abbrev mutual
  -- how many words a tree's own words and those of its children take
  pub size : Tree → ℕ
  size null = 0
  size (cap i) = 0
  size (struct words ts) = length words + tree_count ts + sizes ts
  size (scalars c vs) = list_words c (length vs)
  size (pointers ts) = tree_count ts + sizes ts
  size (structs d p es) = 1 + tree_count es * (d + p) + element_sizes es

  pub sizes : Trees → ℕ
  sizes none = 0
  sizes (more t ts) = size t + sizes ts

  pub element_sizes : Trees → ℕ
  element_sizes none = 0
  element_sizes (more (struct words ts) es) = sizes ts + element_sizes es
  element_sizes (more t es) = element_sizes es

-- the pointer to a tree whose content begins `offset` words after it
abbrev pub pointer_to : ℕ → Tree → ℕ
pointer_to offset null = 0
pointer_to offset (cap i) = 3 + 2 ^ 32 * i
pointer_to offset (struct words ts) = if (length words + tree_count ts) == 0 then 2 ^ 32 - 4 else struct_word offset (length words) (tree_count ts)
pointer_to offset (scalars c vs) = list_word offset c (length vs)
pointer_to offset (pointers ts) = list_word offset 6 (tree_count ts)
pointer_to offset (structs d p es) = list_word offset 7 (tree_count es * (d + p))

-- how far pointers in a row lead, with `after` words between the last and the first child's content
abbrev pub pointer_offsets : ℕ → Trees → List ℕ
pointer_offsets after none = []
pointer_offsets after (more t ts) = (tree_count ts + after) ∷ pointer_offsets (after + size t) ts

-- and those of each element in a row, with `after` words between the last and the first child's
-- content
abbrev pub element_offsets : ℕ → ℕ → Trees → List (List ℕ)
element_offsets each after none = []
element_offsets each after (more (struct words ts) es) =
    pointer_offsets (tree_count es * each + after) ts ∷ element_offsets each (after + sizes ts) es
element_offsets each after (more t es) = element_offsets each after es

-- the pointers to trees, of these offsets
abbrev pub pointers_by : Trees → List ℕ → List ℕ
pointers_by none offsets = []
pointers_by (more t ts) [] = []
pointers_by (more t ts) (offset ∷ offsets) = pointer_to offset t ∷ pointers_by ts offsets

-- elements, the pointers of each of these offsets
abbrev pub elements_by : Trees → List (List ℕ) → List ℕ
elements_by none rows = []
elements_by (more (struct words ts) es) [] = []
elements_by (more (struct words ts) es) (row ∷ rows) = words ++ pointers_by ts row ++ elements_by es rows
elements_by (more t es) rows = elements_by es rows

-- pointers in a row, and elements in a row
abbrev pub pointer_words : ℕ → Trees → List ℕ
pointer_words after ts = pointers_by ts (pointer_offsets after ts)

abbrev pub element_words : ℕ → ℕ → Trees → List ℕ
element_words each after es = elements_by es (element_offsets each after es)

abbrev mutual
  -- a tree's own words, and then its children's contents
  pub content : Tree → List ℕ
  content null = []
  content (cap i) = []
  content (struct words ts) = words ++ pointer_words 0 ts ++ contents ts
  content (scalars c vs) = scalar_words c vs
  content (pointers ts) = pointer_words 0 ts ++ contents ts
  content (structs d p es) = struct_word (tree_count es) d p ∷ (element_words (d + p) 0 es ++ element_contents es)

  pub contents : Trees → List ℕ
  contents none = []
  contents (more t ts) = content t ++ contents ts

  pub element_contents : Trees → List ℕ
  element_contents none = []
  element_contents (more (struct words ts) es) = contents ts ++ element_contents es
  element_contents (more t es) = element_contents es

abbrev pub layout : Tree → List ℕ
layout t = pointer_to 0 t ∷ content t

abbrev mutual
  -- the offsets that the pointer words of a layout are made from, but that of the root word, which is 0
  pub offsets : Tree → List ℕ
  offsets null = []
  offsets (cap i) = []
  offsets (struct words ts) = pointer_offsets 0 ts ++ offsets_below ts
  offsets (scalars c vs) = []
  offsets (pointers ts) = pointer_offsets 0 ts ++ offsets_below ts
  offsets (structs d p es) = flat_map (λ row. row) (element_offsets (d + p) 0 es) ++ element_offsets_below es

  pub offsets_below : Trees → List ℕ
  offsets_below none = []
  offsets_below (more t ts) = offsets t ++ offsets_below ts

  pub element_offsets_below : Trees → List ℕ
  element_offsets_below none = []
  element_offsets_below (more (struct words ts) es) = offsets_below ts ++ element_offsets_below es
  element_offsets_below (more t es) = element_offsets_below es
