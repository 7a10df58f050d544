-- What trimming leaves, reported of the tree before it.
use Rattle.std.proofs.Common.{ap, ap₂, max, refl, suc, ◌≡◌, rules}
use Rattle.cap_spec.specs.Canonical.{children_needed, children_of, data_needed, data_of, is_null, trim, trim_all}
use Rattle.cap_spec.specs.Canonical.{trim_elements}
use Rattle.cap_spec.specs.Tree.{Tree, Trees, cap, more, none, null, pointers, scalars, struct, structs, tree_count}

-- a tree is null where it is null trimmed
pub is_null-trim : (t : Tree) → is_null (trim t) ≡ is_null t
is_null-trim h = search rules

-- as many children are needed when each is trimmed
pub children_needed-trim : (ts : Trees) → children_needed (trim_all ts) ≡ children_needed ts
children_needed-trim none = refl
children_needed-trim (more t ts) = search (rules, is_null-trim, children_needed-trim ts)

-- as much of each element is needed when its children are trimmed
pub data_of-trim : (es : Trees) → data_of (trim_elements es) ≡ data_of es
data_of-trim none = refl
data_of-trim (more (struct ws ts) es) = ap (max (data_needed ws)) (data_of-trim es)
data_of-trim (more null es) = data_of-trim es
data_of-trim (more (cap i) es) = data_of-trim es
data_of-trim (more (scalars c vs) es) = data_of-trim es
data_of-trim (more (pointers ts) es) = data_of-trim es
data_of-trim (more (structs d p xs) es) = data_of-trim es

pub children_of-trim : (es : Trees) → children_of (trim_elements es) ≡ children_of es
children_of-trim none = refl
children_of-trim (more (struct ws ts) es) = ap₂ max (children_needed-trim ts) (children_of-trim es)
children_of-trim (more null es) = children_of-trim es
children_of-trim (more (cap i) es) = children_of-trim es
children_of-trim (more (scalars c vs) es) = children_of-trim es
children_of-trim (more (pointers ts) es) = children_of-trim es
children_of-trim (more (structs d p xs) es) = children_of-trim es

-- as many elements as before
pub tree_count-trim_elements : (es : Trees) → tree_count (trim_elements es) ≡ tree_count es
tree_count-trim_elements none = refl
tree_count-trim_elements (more (struct ws ts) es) = ap suc (tree_count-trim_elements es)
tree_count-trim_elements (more null es) = ap suc (tree_count-trim_elements es)
tree_count-trim_elements (more (cap i) es) = ap suc (tree_count-trim_elements es)
tree_count-trim_elements (more (scalars c vs) es) = ap suc (tree_count-trim_elements es)
tree_count-trim_elements (more (pointers ts) es) = ap suc (tree_count-trim_elements es)
tree_count-trim_elements (more (structs x y xs) es) = ap suc (tree_count-trim_elements es)
