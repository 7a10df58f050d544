-- The words of a layout, seen from the pointer words that lead to what isn't laid yet (profile).
use Rattle.std.specs.Prelude.{List, Some, [], length, slice_get, ℕ, ⊤, ◌*◌, ◌++◌, ◌+◌, ◌<◌, ◌∷◌, ◌≡◌, ◌≤◌}
use Rattle.cap_spec.specs.Canonical.{content, pointer_to, size, struct_word}
use Rattle.cap_spec.specs.Placing.{HasWordsAt}
use Rattle.cap_spec.specs.Pointers.{list_words}
use Rattle.cap_spec.specs.Scalars.{scalar_words}
use Rattle.cap_spec.specs.Tree.{Tree, Trees, cap, more, none, null, pointers, scalars, struct, structs, tree_count}

-- a pointer word of the copy, and the trimmed tree that it leads to
pub record Due : Type 0 where
  pub slot : ℕ
  pub tree : Tree

-- Each pointer word leads to its tree's content. The contents start at end, one after the other, up
-- to the end of the words.
abbrev pub Laid : List ℕ → ℕ → List Due → Type 0
Laid words end [] = end ≡ length words
Laid words end (x ∷ due) =
    (offset : ℕ) × (end ≡ x.slot + 1 + offset) × (slice_get words x.slot ≡ Some (pointer_to offset x.tree)) × HasWordsAt words end (content x.tree)
    × Laid words (end + size x.tree) due

-- pointer words in a row
abbrev pub slots : ℕ → Trees → List Due
slots a none = []
slots a (more t ts) = record { slot = a; tree = t } ∷ slots (a + 1) ts

-- those of elements of d data words and p pointers
abbrev pub element_slots : ℕ → ℕ → ℕ → Trees → List Due
element_slots d p a none = []
element_slots d p a (more (struct ws ts) es) = slots (a + d) ts ++ element_slots d p (a + d + p) es
element_slots d p a (more t es) = element_slots d p a es

-- how many words a tree has of its own
abbrev pub own_size : Tree → ℕ
own_size null = 0
own_size (cap i) = 0
own_size (struct ws ts) = length ws + tree_count ts
own_size (scalars c vs) = list_words c (length vs)
own_size (pointers ts) = tree_count ts
own_size (structs d p es) = 1 + tree_count es * (d + p)

-- the pointer words that become due when a tree's own words are laid from end on
abbrev pub below : ℕ → Tree → List Due
below end null = []
below end (cap i) = []
below end (struct ws ts) = slots (end + length ws) ts
below end (scalars c vs) = []
below end (pointers ts) = slots end ts
below end (structs d p es) = element_slots d p (end + 1) es

-- the words of all that is due
abbrev pub size_due : List Due → ℕ
size_due [] = 0
size_due (x ∷ due) = size x.tree + size_due due

-- each pointer word is before the end
abbrev pub AreBefore : ℕ → List Due → Type 0
AreBefore end [] = ⊤
AreBefore end (x ∷ due) = (x.slot < end) × AreBefore end due

-- the data words of elements are in their places
abbrev pub DataAt : List ℕ → ℕ → ℕ → ℕ → Trees → Type 0
DataAt words b d p none = b ≤ length words
DataAt words b d p (more (struct ws ts) es) = HasWordsAt words b ws × DataAt words (b + d + p) d p es
DataAt words b d p (more t es) = ⊥

-- a tree's own words that aren't pointers are there from end on
abbrev pub OwnAt : List ℕ → ℕ → Tree → Type 0
OwnAt words end null = ⊤
OwnAt words end (cap i) = ⊤
OwnAt words end (struct ws ts) = HasWordsAt words end ws
OwnAt words end (scalars c vs) = HasWordsAt words end (scalar_words c vs)
OwnAt words end (pointers ts) = ⊤
OwnAt words end (structs d p es) = (slice_get words end ≡ Some (struct_word (tree_count es) d p)) × DataAt words (end + 1) d p es

-- the pointer word leads to the end
abbrev pub IsPointed : List ℕ → ℕ → ℕ → Tree → Type 0
IsPointed words end slot t = (offset : ℕ) × (end ≡ slot + 1 + offset) × (slice_get words slot ≡ Some (pointer_to offset t))
