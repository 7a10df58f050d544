-- Words of a copy beside those of the whole, whose pointer words may still be missing (profile).
use Rattle.std.specs.Prelude.{List, [], length, slice_index, suc, zero, ℕ, ◌++◌, ◌+◌, ◌<◌, ◌∷◌, ◌≡◌, ◌≤◌, ◌⊎◌}
use Rattle.cap_spec.specs.SpecNames.{layout, words_from, Tree}
use Rattle.cap_canon.specs.Laying.{Due, IsPointed, OwnAt, below, own_size}
use Rattle.cap_canon.specs.Objects.{IsObject}
use Rattle.cap_canon.specs.declared.objects.Object.{Object}
use Rattle.cap_canon.specs.declared.objects.Part.{Part}

-- a position is that of a pointer word that is due
abbrev pub IsDue : ℕ → List Due → Type 0
IsDue i [] = ⊥
IsDue i (x ∷ due) = (i ≡ x.slot) ⊎ IsDue i due

-- the words so far are those of the whole, but for pointer words that are due
abbrev pub Agrees : List ℕ → List ℕ → List Due → Type 0
Agrees words whole due = (i : ℕ) → i < length words → IsDue i due ⊎ (slice_index words i ≡ slice_index whole i)

-- The copy before has a pointer word due at slot, and the one after has its object's own words from end on.
abbrev pub LaysObject : List (List ℕ) → Object → ℕ → ℕ → List ℕ → List ℕ → Type 0
LaysObject m object slot end old new = (d s w : ℕ) (tree : Tree) (whole : List ℕ) (due : List Due)
    → IsObject m d s w tree object → IsPointed whole end slot tree → OwnAt whole end tree
    → Agrees old whole (record { slot = slot; tree = tree } ∷ due) → Agrees new whole (below end tree ++ due)

-- They are all words of the layout up to end, and the capacity is enough for the layout.
pub record IsCopied (words : List ℕ) (capacity : ℕ) (whole : Tree) (end : ℕ) (due : List Due) : Type 0 where
  pub ends : length words ≡ end
  pub agrees : Agrees words (layout whole) due
  pub space : length (layout whole) ≤ capacity

-- these words are those of the whole from b on, but for pointer words that are due
abbrev pub Fills : List ℕ → ℕ → List Due → List ℕ → Type 0
Fills whole b due words = (k : ℕ) → k < length words → IsDue (b + k) due ⊎ (slice_index words k ≡ slice_index whole (b + k))

-- A tree's own words were appended, with anything in place of its pointer words.
pub record OwnAppended (old new : List ℕ) (tree : Tree) : Type 0 where
  pub words : List ℕ
  pub appended : new ≡ old ++ words
  pub many : length words ≡ own_size tree
  pub fill : (whole : List ℕ) → OwnAt whole (length old) tree → Fills whole (length old) (below (length old) tree) words

-- of each of n elements of ds data words and ps pointers, from t:b on, the first d data words and p pointer words
abbrev pub elements_from : List (List ℕ) → ℕ → ℕ → ℕ → ℕ → ℕ → ℕ → ℕ → List ℕ
elements_from m t b ds ps d p zero = []
elements_from m t b ds ps d p (suc n) = words_from m t b d ++ words_from m t (b + ds) p ++ elements_from m t (b + ds + ps) ds ps d p n

-- the words that are left of a struct, and of each of n in a row
abbrev pub part_words : List (List ℕ) → Part → List ℕ
part_words m x = words_from m x.segment x.start x.data_left ++ words_from m x.segment (x.start + x.data_words) x.pointers_left

abbrev pub parts_words : List (List ℕ) → Part → ℕ → List ℕ
parts_words m x n = elements_from m x.segment x.start x.data_words x.pointers x.data_left x.pointers_left n
