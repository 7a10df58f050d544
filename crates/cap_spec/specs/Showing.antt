-- A node without what its children are, and what a view shows of it (profile): each question is answered None where it doesn't apply or lies past the end.
use Rattle.std.specs.Prelude.{Bool, List, None, Option, Some, [], length, option_map, slice_get, ℕ, ◌%◌, ◌/◌, ◌==◌}
use Rattle.cap_spec.specs.Plain.{plain_text}
use Rattle.cap_spec.specs.Scalars.{scalar_words}
use Rattle.cap_spec.specs.Tree.{Tree, cap, null, pointers, scalars, struct, structs, tree_count}
use Rattle.cap_spec.specs.Words.{field}
use Rattle.cap_spec.specs.declared.Kind.{Kind}
use Rattle.cap_spec.specs.declared.Kind.TheVariants.{Cap, Null, Pointers, Scalars, Struct, Structs}

-- A node of a tree without what its children are.
pub data Own : Type 0 where
  own_null : Own
  own_cap : ℕ → Own
  -- data words, and how many pointers
  own_struct : List ℕ → ℕ → Own
  -- code, values
  own_scalars : ℕ → List ℕ → Own
  own_pointers : ℕ → Own
  -- how many elements, and the data words and pointers of each
  own_structs : ℕ → ℕ → ℕ → Own

-- what a node is by itself
abbrev pub own_of : Tree → Own
own_of null = own_null
own_of (cap i) = own_cap i
own_of (struct words ts) = own_struct words (tree_count ts)
own_of (scalars c vs) = own_scalars c vs
own_of (pointers ts) = own_pointers (tree_count ts)
own_of (structs d p es) = own_structs (tree_count es) d p

-- its kind, with its sizes
abbrev pub kind_of : Own → Kind
kind_of own_null = Null
kind_of (own_cap i) = Cap i
kind_of (own_struct words n) = Struct (length words) n
kind_of (own_scalars c vs) = Scalars c (length vs)
kind_of (own_pointers n) = Pointers n
kind_of (own_structs n d p) = Structs n d p

-- the words of its own: a struct's data words, or those of a list's values, unused bits zero
abbrev pub words_of_own : Own → List ℕ
words_of_own (own_struct words n) = words
words_of_own (own_scalars c vs) = scalar_words c vs
words_of_own _ = []

-- one of its own words
abbrev pub data_word_of : Own → ℕ → Option ℕ
data_word_of own i = slice_get (words_of_own own) i

-- a byte of a struct's data section
abbrev pub byte_of : Own → ℕ → Option ℕ
byte_of (own_struct words n) i = slice_get (plain_text words) i
byte_of _ i = None

-- a bit of a struct's data section, the lowest first
abbrev pub bit_of : Own → ℕ → Option Bool
bit_of (own_struct words n) i = option_map (λ w. field w (i % 64) 1 == 1) (slice_get words (i / 64))
bit_of _ i = None

-- an element of a scalar list
abbrev pub scalar_of : Own → ℕ → Option ℕ
scalar_of (own_scalars c vs) i = slice_get vs i
scalar_of _ i = None

-- how many elements a list has
abbrev pub count_of : Own → Option ℕ
count_of (own_scalars c vs) = Some (length vs)
count_of (own_pointers n) = Some n
count_of (own_structs n d p) = Some n
count_of _ = None
