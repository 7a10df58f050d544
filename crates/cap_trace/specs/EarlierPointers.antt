-- The earlier pointer of an overlap (profile).
use Rattle.std.specs.Prelude.{List, None, Option, Some, [], ℕ, ◌++◌, ◌≡◌}
use Rattle.cap_spec.specs.Denoting.{places}
use Rattle.cap_spec.specs.Lists.{IsOneOf}
use Rattle.cap_spec.specs.Occupying.{Occupies, Uses}
use Rattle.cap_spec.specs.Paths.{Before, IsFirst, IsNumbered}
use Rattle.cap_spec.specs.declared.Step.{Step}
use Rattle.cap_ptr.specs.declared.shapes.Followed.{Followed}
use Rattle.cap_ptr.specs.declared.shapes.Followed.TheVariants.{Cap, Null, Target}
use Rattle.cap_ptr.specs.declared.place.Place.{Place}
use Rattle.cap_trace.specs.PointerNumbers.{IsTraceable}
use Rattle.cap_trace.specs.declared.earlier.EarlierPointer.{EarlierPointer}
use Rattle.cap_trace.specs.declared.used_words.UsedWords.{UsedWords}

-- The other path comes before this one in preorder, and following both pointers uses some place.
pub record SharesBefore (m : List (List ℕ)) (path other : List Step) : Type 0 where
  pub before : Before other path
  pub place : ℕ × ℕ
  pub earlier : Uses m other place
  pub later : Uses m path place

-- The pointer word at s:w has this number in preorder, and is the first whose pointer uses a word that the pointer of the path uses too.
pub record IsEarlier (m : List (List ℕ)) (path : List Step) (s w number : ℕ) : Type 0 where
  pub other : List Step
  pub numbered : IsNumbered m other s w number
  pub first : IsFirst (SharesBefore m path) other

-- that pointer, or that there is none
abbrev pub IsEarlierOf : List (List ℕ) → List Step → Option EarlierPointer → Type 0
IsEarlierOf m path None = (other : List Step) → ¬ SharesBefore m path other
IsEarlierOf m path (Some e) = IsEarlier m path e.segment e.word e.pointers

-- The pointer word of number n in preorder can be traced, and this is that earlier pointer. Or there is none.
abbrev pub ReportsEarlier : List (List ℕ) → ℕ → ℕ → Option EarlierPointer → Type 0
ReportsEarlier m depth n None = (path : List Step) → IsTraceable m depth n path → IsEarlierOf m path None
ReportsEarlier m depth n (Some e) = (path : List Step) × IsTraceable m depth n path × IsEarlierOf m path (Some e)

-- the path to that pointer, if there is one
abbrev pub earlier_path : (m : List (List ℕ)) (path : List Step) (e : Option EarlierPointer) → IsEarlierOf m path e
    → Option (List Step)
earlier_path m path None none = None
earlier_path m path (Some e) h = Some h.other

-- The result is that pointer, or that there is none, and this is the path to it.
abbrev pub FindsEarlier : List (List ℕ) → List Step → Option EarlierPointer → Option (List Step) → Type 0
FindsEarlier m path result found = (h : IsEarlierOf m path result) × (found ≡ earlier_path m path result h)

-- the places of a range of words
abbrev pub places_in : Place → List (ℕ × ℕ)
places_in p = places p.segment p.start p.words

-- the places of landing pads and of an object
abbrev pub used_places : UsedWords → List (ℕ × ℕ)
used_places used = places_in used.pads ++ places_in used.object

-- the places of the object that a pointer leads to
abbrev pub target_places : Followed → List (ℕ × ℕ)
target_places (Null k) = []
target_places (Cap k i) = []
target_places (Target x) = places x.segment x.start x.words

-- some place is in both lists
abbrev pub HaveCommon : List (ℕ × ℕ) → List (ℕ × ℕ) → Type 0
HaveCommon xs ys = (x : ℕ × ℕ) × IsOneOf x xs × IsOneOf x ys

-- following the pointer at s:w uses one of these places
abbrev pub UsesOneAt : List (List ℕ) → ℕ → ℕ → List (ℕ × ℕ) → Type 0
UsesOneAt m s w places = (used : List (ℕ × ℕ)) × Occupies m s w used × HaveCommon used places

-- following the pointer that the path reaches uses one of these places
abbrev pub UsesOneOf : List (List ℕ) → List (ℕ × ℕ) → List Step → Type 0
UsesOneOf m places path = (x : ℕ × ℕ) × Uses m path x × IsOneOf x places

-- none that comes before the path in preorder does
abbrev pub NoneUses : List (List ℕ) → List (ℕ × ℕ) → List Step → Type 0
NoneUses m places path = (other : List Step) → Before other path → ¬ UsesOneOf m places other

-- The first of those before the path that uses one of these places, or that there is none.
abbrev pub IsFirstUsing : List (List ℕ) → List (ℕ × ℕ) → List Step → Option EarlierPointer → Type 0
IsFirstUsing m places path None = NoneUses m places path
IsFirstUsing m places path (Some e) = (other : List Step) × IsNumbered m other e.segment e.word e.pointers
    × Before other path × UsesOneOf m places other × NoneUses m places other

-- following the pointer at s:w uses these words, or it can't be followed
abbrev pub ReportsUsed : List (List ℕ) → ℕ → ℕ → Option UsedWords → Type 0
ReportsUsed m s w None = (used : List (ℕ × ℕ)) → ¬ Occupies m s w used
ReportsUsed m s w (Some used) = Occupies m s w (used_places used)
