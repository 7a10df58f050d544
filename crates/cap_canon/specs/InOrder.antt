-- A message that is compared with its canonical copy while it is vetted (profile).
use Rattle.std.specs.Prelude.{List, None, [], length, ℕ, ⊤, ◌++◌, ◌+◌, ◌<◌, ◌^◌, ◌∷◌, ◌≡◌, ◌≢◌, ◌≤◌, ◌⊎◌}
use Rattle.cap_spec.specs.Copies.{IsCanonical}
use Rattle.cap_spec.specs.SpecNames.{trim, Denotes, Finds, HasTag, most_words, HasWord, segment_of, Costs, code}
use Rattle.cap_spec.specs.SpecNames.{data_size, kind, middle, pointer_size, Tree}
use Rattle.cap_spec.specs.declared.Step.{Step}
use Rattle.cap_vet.specs.VetNames.{object_children, KnowsLax, Ahead, IsTrail}
use Rattle.cap_canon.specs.Checked.{IsChecked}
use Rattle.cap_canon.specs.Laying.{AreBefore, Due, IsPointed, Laid, OwnAt, below, own_size}
use Rattle.cap_canon.specs.Objects.{IsLeft}
use Rattle.cap_canon.specs.Roots.{ForTrimmed}
use Rattle.cap_canon.specs.StillToLay.{longest_copy}

-- The words ahead of a walk are those of the copy that are due, each in its place.
abbrev pub AreDue : List (List ℕ) → List Ahead → List Due → Type 0
AreDue m [] [] = ⊤
AreDue m [] (x ∷ due) = ⊥
AreDue m (a ∷ ahead) [] = ⊥
AreDue m (a ∷ ahead) (x ∷ due) = (a.segment ≡ 0) × (a.word ≡ x.slot) × ((deep : ℕ) × IsLeft m deep 0 x.slot x.tree) × AreDue m ahead due

-- Of a message with this trimmed tree the words up to end are those of the copy, if the pointer words ahead are.
pub record IsLaidSoFar (m : List (List ℕ)) (end : ℕ) (ahead : List Ahead) (whole : Tree) : Type 0 where
  pub due : List Due
  pub are_due : AreDue m ahead due
  pub before : AreBefore end due
  pub checked : IsChecked m whole end due

-- After these paths each object is where a copy has it, and a copy has the next one from end on.
pub record IsInOrder (m : List (List ℕ)) (end : ℕ) (seen : List (List Step)) : Type 0 where
  pub one : length m ≡ 1
  pub few : length (segment_of m 0) ≤ longest_copy
  pub inside : end ≤ length (segment_of m 0)
  pub strict : KnowsLax m seen None
  pub so_far : (ahead : List Ahead) → IsTrail m seen ahead → ForTrimmed m (IsLaidSoFar m end ahead)

-- A copy has this trimmed tree's own words from end on, up to now, as the message has them. The object of the word q at
-- t:b, with this tag, has the pointer words that are due then.
pub record IsOwn (m : List (List ℕ)) (w end now q tag t b : ℕ) (u : Tree) : Type 0 where
  pub pointed : IsPointed (segment_of m 0) end w u
  pub own : OwnAt (segment_of m 0) end u
  pub ends : now ≡ end + own_size u
  pub before : AreBefore now (below end u)
  pub due : (path : List Step) (level : ℕ) → AreDue m (object_children path q tag t b level) (below end u)

-- and so it is of the tree that the pointer word w of segment 0 denotes
abbrev pub HasOwn : List (List ℕ) → ℕ → ℕ → ℕ → ℕ → ℕ → ℕ → ℕ → Type 0
HasOwn m w end now q tag t b = (x : Tree) (c d : ℕ) → Denotes m 0 w x c d → IsOwn m w end now q tag t b (trim x)

-- A copy may have the words of the object of the pointer word w from end on.
pub record MayStartAt (m : List (List ℕ)) (w end : ℕ) : Type 0 where
  pub after : w < end
  pub inside : end ≤ length (segment_of m 0)
  pub few : length (segment_of m 0) ≤ longest_copy

-- The pointer word w of segment 0 is this word, which leads to the end of a copy. Following it costs this much.
pub record LeadsToEnd (m : List (List ℕ)) (w word end cost : ℕ) : Type 0 where
  pub placed : MayStartAt m w end
  pub has : HasWord m 0 w word
  pub next : w + 1 + middle word ≡ end
  pub costs : Costs m 0 w cost

-- The word isn't that of a struct with words, nor that of a list with bits.
abbrev pub HasNoWords : ℕ → Type 0
HasNoWords word = (kind word ≡ 0 → data_size word + pointer_size word ≡ 0) × (kind word ≡ 1 → code word ≡ 0)

-- The pointer word w of segment 0 finds an object, and a copy has that word and the object's own words, from end on up to now.
pub record IsNextInOrder (m : List (List ℕ)) (w end now : ℕ) : Type 0 where
  pub word : ℕ
  pub has : HasWord m 0 w word
  pub near : kind word ≢ 2
  pub after : w < end
  pub inside : now ≤ length (segment_of m 0)
  pub k : ℕ
  pub t : ℕ
  pub b : ℕ
  pub q : ℕ
  pub tag : ℕ
  pub finds : Finds m 0 w k t b q
  pub tagged : HasTag m t b q tag
  pub own : HasOwn m w end now q tag t b

-- It is as a copy has it: null, or such an object.
abbrev pub IsAsInCopy : List (List ℕ) → ℕ → ℕ → ℕ → Type 0
IsAsInCopy m w end now = (HasWord m 0 w 0 × (now ≡ end)) ⊎ IsNextInOrder m w end now

-- No copy has the pointer word w of segment 0, its object's own words from end on, and after them what is below, as the
-- message has them.
abbrev pub NoCopyHas : List (List ℕ) → ℕ → ℕ → Type 0
NoCopyHas m w end = (x : Tree) (c d : ℕ) → Denotes m 0 w x c d → w < end → end < 2 ^ 29 → IsPointed (segment_of m 0) end w (trim x)
    → OwnAt (segment_of m 0) end (trim x) → (due : List Due) → Laid (segment_of m 0) (end + own_size (trim x)) (below end (trim x) ++ due) → ⊥

-- So it is, or the word is that of a capability.
abbrev pub Differs : List (List ℕ) → ℕ → ℕ → Type 0
Differs m w end = ((word : ℕ) × HasWord m 0 w word × (kind word ≡ 3)) ⊎ NoCopyHas m w end

-- If a message is accepted within the greatest limits, it isn't canonical.
abbrev pub IsNotCanonical : List (List ℕ) → Type 0
IsNotCanonical m = (t : Tree) (c d : ℕ) → Denotes m 0 0 t c d → c ≤ most_words → ¬ IsCanonical m

-- Some object before was not where a copy has it. Common readers reject none of the pointers at these paths.
pub record HasDiffered (m : List (List ℕ)) (seen : List (List Step)) : Type 0 where
  pub one : length m ≡ 1
  pub few : length (segment_of m 0) ≤ longest_copy
  pub some : 0 < length (segment_of m 0)
  pub strict : KnowsLax m seen None
  pub differs : IsNotCanonical m

-- What is known of a message after these paths, where a copy has the next object from `end` on: 0 after a difference.
abbrev pub IsCompared : List (List ℕ) → ℕ → List (List Step) → Type 0
IsCompared m end seen = IsInOrder m end seen ⊎ ((end ≡ 0) × HasDiffered m seen)
