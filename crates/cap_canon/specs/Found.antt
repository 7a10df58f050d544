-- The struct or the list of structs that a pointer word finds, with the tree that the word denotes (profile).
use Rattle.std.specs.Prelude.{List, length, ℕ, ◌*◌, ◌+◌, ◌<◌, ◌≡◌, ◌≤◌}
use Rattle.cap_spec.specs.SpecNames.{AreElements, DenoteEach, Finds, places, words_from, HasWord, segment_of, code}
use Rattle.cap_spec.specs.SpecNames.{data_size, kind, list_size, middle, pointer_size, Tree, Trees, struct, structs}

-- The word at s:w finds a struct of ds data words and ps pointers at t:b.
pub record LeadsToStruct (m : List (List ℕ)) (s w t b ds ps : ℕ) : Type 0 where
  pub k : ℕ
  pub q : ℕ
  pub finds : Finds m s w k t b q
  pub kind : kind q ≡ 0
  pub sizes : (ds ≡ data_size q) × (ps ≡ pointer_size q)
  pub exists : t < length m
  pub inside : b + ds + ps ≤ length (segment_of m t)

-- It denotes the tree x, of d levels.
pub record IsStructAt (m : List (List ℕ)) (s w t b ds ps : ℕ) (x : Tree) (d : ℕ) : Type 0 where
  pub found : LeadsToStruct m s w t b ds ps
  pub words : List ℕ
  pub children : Trees
  pub inner : ℕ
  pub deep : ℕ
  pub tree : x ≡ struct words children
  pub data_words : words ≡ words_from m t b ds
  pub below : DenoteEach m (places t (b + ds) ps) children inner deep
  pub levels : deep + 1 ≤ d

-- The word at s:w finds a list of n structs of ds data words and ps pointers each, whose tag is at t:b.
pub record FindsStructList (m : List (List ℕ)) (s w t b n ds ps : ℕ) : Type 0 where
  pub k : ℕ
  pub q : ℕ
  pub tag : ℕ
  pub finds : Finds m s w k t b q
  pub kind : kind q ≡ 1
  pub code : code q ≡ 7
  pub has_tag : HasWord m t b tag
  pub count : n ≡ middle tag
  pub sizes : (ds ≡ data_size tag) × (ps ≡ pointer_size tag)
  pub fits : n * (ds + ps) ≤ list_size q
  pub exists : t < length m
  pub inside : b + 1 + n * (ds + ps) ≤ length (segment_of m t)

-- It denotes the tree x, of d levels.
pub record IsStructsAt (m : List (List ℕ)) (s w t b n ds ps : ℕ) (x : Tree) (d : ℕ) : Type 0 where
  pub found : FindsStructList m s w t b n ds ps
  pub elements : Trees
  pub inner : ℕ
  pub deep : ℕ
  pub tree : x ≡ structs ds ps elements
  pub below : AreElements m t (b + 1) ds ps n elements inner deep
  pub levels : deep + 1 ≤ d
