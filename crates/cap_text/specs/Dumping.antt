-- The lines of a dump by kinds of nodes, and how deep they nest (profile).
use Rattle.std.specs.Prelude.{List, codes, if◌then◌else◌, max, suc, zero, ℕ, ◌++◌, ◌+◌, ◌==◌}
use Rattle.cap_spec.specs.Texts.{then_number}
use Rattle.cap_spec.specs.Tree.{Tree, Trees, cap, more, none, null, pointers, scalars, struct, structs}
use Rattle.cap_spec.specs.declared.Kind.{Kind}
use Rattle.cap_spec.specs.declared.Kind.TheVariants.{Cap, Null, Pointers, Scalars, Struct, Structs}
use Rattle.cap_spec.specs.declared.Step.{Step}
use Rattle.cap_spec.specs.declared.Step.TheVariants.{Item, Ptr}

-- the head of a node of a kind
abbrev pub head_of : Kind → List ℕ
head_of Null = codes "null"
head_of (Cap i) = codes "cap" ++ then_number i
head_of (Struct d p) = codes "struct" ++ then_number d ++ then_number p
head_of (Scalars c n) = codes "list" ++ then_number c ++ then_number n
head_of (Pointers n) = codes "pointers" ++ then_number n
head_of (Structs n d p) = codes "structs" ++ then_number n ++ then_number d ++ then_number p

-- the letter before the numbers of its own words
abbrev pub word_letter_of : Kind → ℕ
word_letter_of (Struct d p) = 100
word_letter_of _ = 119

-- how many children are shown
abbrev pub shown_count_of : Kind → ℕ
shown_count_of (Struct d p) = p
shown_count_of (Pointers n) = n
shown_count_of (Structs n d p) = if (d + p) == 0 then 0 else n
shown_count_of _ = 0

-- the letter before their numbers
abbrev pub child_letter_of : Kind → ℕ
child_letter_of (Struct d p) = 112
child_letter_of _ = 105

-- the step to one of them
abbrev pub child_step_of : Kind → ℕ → Step
child_step_of (Struct d p) i = Ptr i
child_step_of _ i = Item i

-- the children that are shown
abbrev pub shown_below : Tree → Trees
shown_below (struct words ts) = ts
shown_below (pointers ts) = ts
shown_below (structs d p es) = if (d + p) == 0 then none else es
shown_below _ = none

-- the trees from number i on
abbrev pub trees_from : ℕ → Trees → Trees
trees_from zero ts = ts
trees_from (suc i) none = none
trees_from (suc i) (more t ts) = trees_from i ts

-- how many levels of lines are below a node
abbrev mutual
  pub height : Tree → ℕ
  height null = 0
  height (cap i) = 0
  height (struct words ts) = heights ts
  height (scalars c vs) = 0
  height (pointers ts) = heights ts
  height (structs d p es) = if (d + p) == 0 then 0 else heights es

  -- and in the lines of some nodes
  pub heights : Trees → ℕ
  heights none = 0
  heights (more t ts) = max (1 + height t) (heights ts)
