-- What is left of the object that a pointer word finds, when it is trimmed, and where its words are
-- (profile).
use Rattle.std.specs.Prelude.{List, length, ℕ, ⊤, ◌+◌, ◌<◌, ◌≡◌, ◌≤◌}
use Rattle.cap_spec.specs.Denoting.{values_of}
use Rattle.cap_spec.specs.SpecNames.{trim, Denotes, Finds, words_from, segment_of, code, kind, list_size, list_words}
use Rattle.cap_spec.specs.SpecNames.{Tree, Trees, cap, null, pointers, scalars, struct, structs}
use Rattle.cap_spec.specs.Tree.{more, none, tree_count}
use Rattle.cap_canon.specs.Found.{LeadsToStruct, FindsStructList}
use Rattle.cap_canon.specs.declared.objects.Object.{Object}
use Rattle.cap_canon.specs.declared.objects.Part.{Part}
use Rattle.cap_canon.specs.declared.objects.Object.TheVariants as object

-- The word denotes a tree of at most `deep` levels, and this is what is left of it.
abbrev pub IsLeft : List (List ℕ) → ℕ → ℕ → ℕ → Tree → Type 0
IsLeft m deep s w u = (t : Tree) × (c d : ℕ) × Denotes m s w t c d × (u ≡ trim t) × (d ≤ deep)

-- the same of words in a row
abbrev pub AreLeft : List (List ℕ) → ℕ → ℕ → ℕ → Trees → Type 0
AreLeft m deep s w none = ⊤
AreLeft m deep s w (more u us) = IsLeft m deep s w u × AreLeft m deep s (w + 1) us

-- and of structs in a row, from word b on
abbrev pub AreElementsLeft : List (List ℕ) → ℕ → ℕ → ℕ → ℕ → ℕ → ℕ → ℕ → Trees → Type 0
AreElementsLeft m deep t b ds ps d p none = ⊤
AreElementsLeft m deep t b ds ps d p (more (struct ws us) es) =
    (ws ≡ words_from m t b d) × (tree_count us ≡ p) × AreLeft m deep t (b + ds) us × AreElementsLeft m deep t (b + ds + ps) ds ps d p es
AreElementsLeft m deep t b ds ps d p (more u es) = ⊥

-- a part is no more than what it is left of
abbrev pub IsFewer : Part → Type 0
IsFewer x = (x.data_left ≤ x.data_words) × (x.pointers_left ≤ x.pointers)

-- The word finds a struct, of which this part is left.
pub record IsStructObject (m : List (List ℕ)) (deep s w : ℕ) (u : Tree) (x : Part) : Type 0 where
  pub found : LeadsToStruct m s w x.segment x.start x.data_words x.pointers
  pub words : List ℕ
  pub children : Trees
  pub tree : u ≡ struct words children
  pub data_words : words ≡ words_from m x.segment x.start x.data_left
  pub many : tree_count children ≡ x.pointers_left
  pub fewer : IsFewer x
  pub below : AreLeft m deep x.segment (x.start + x.data_words) children

-- a list of n values of code c at t:b, in `words` words
pub record IsScalarsObject (m : List (List ℕ)) (s w : ℕ) (u : Tree) (t b c n words : ℕ) : Type 0 where
  pub k : ℕ
  pub q : ℕ
  pub finds : Finds m s w k t b q
  pub kind : kind q ≡ 1
  pub code : c ≡ code q
  pub scalar : c < 6
  pub count : n ≡ list_size q
  pub tree : u ≡ scalars c (values_of m t b c n)
  pub extent : words ≡ list_words c n
  pub inside : b + words ≤ length (segment_of m t)

-- a list of n pointers at t:b
pub record IsPointersObject (m : List (List ℕ)) (deep s w : ℕ) (u : Tree) (t b n : ℕ) : Type 0 where
  pub k : ℕ
  pub q : ℕ
  pub finds : Finds m s w k t b q
  pub kind : kind q ≡ 1
  pub code : code q ≡ 6
  pub count : n ≡ list_size q
  pub children : Trees
  pub tree : u ≡ pointers children
  pub many : tree_count children ≡ n
  pub inside : b + n ≤ length (segment_of m t)
  pub below : AreLeft m deep t b children

-- a list of n structs, of each of which this part is left; its tag is at word b
pub record IsStructsObject (m : List (List ℕ)) (deep s w : ℕ) (u : Tree) (n : ℕ) (x : Part) : Type 0 where
  pub b : ℕ
  pub start : x.start ≡ b + 1
  pub found : FindsStructList m s w x.segment b n x.data_words x.pointers
  pub elements : Trees
  pub tree : u ≡ structs x.data_left x.pointers_left elements
  pub many : tree_count elements ≡ n
  pub fewer : IsFewer x
  pub below : AreElementsLeft m deep x.segment x.start x.data_words x.pointers x.data_left x.pointers_left elements

-- The pointer word at s:w leads to this object, of a tree of at most `deep` levels, and u is what
-- is left of it.
abbrev pub IsObject : List (List ℕ) → ℕ → ℕ → ℕ → Tree → Object → Type 0
IsObject m deep s w u object.Null = u ≡ null
IsObject m deep s w u (object.Cap i) = u ≡ cap i
IsObject m deep s w u (object.Struct x) = (deeper : ℕ) × (deeper + 1 ≤ deep) × IsStructObject m deeper s w u x
IsObject m deep s w u (object.Scalars t b c n words) = (1 ≤ deep) × IsScalarsObject m s w u t b c n words
IsObject m deep s w u (object.Pointers t b n) = (deeper : ℕ) × (deeper + 1 ≤ deep) × IsPointersObject m deeper s w u t b n
IsObject m deep s w u (object.Structs n x) = (deeper : ℕ) × (deeper + 1 ≤ deep) × IsStructsObject m deeper s w u n x
