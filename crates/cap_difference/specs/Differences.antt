-- The first difference between an accepted message and its canonical copy (profile; standard: Canonicalization).
use Rattle.std.specs.Prelude.{List, [], length, ℕ, ◌++◌, ◌+◌, ◌<◌, ◌∷◌, ◌≡◌, ◌≢◌, ◌⊎◌}
use Rattle.cap_spec.specs.Denoting.{Denotes}
use Rattle.cap_spec.specs.Following.{Lead, Leads, to_cap, to_null, to_object}
use Rattle.cap_spec.specs.Lists.{IsOneOf}
use Rattle.cap_spec.specs.Messages.{segment_of}
use Rattle.cap_spec.specs.Paths.{IsFirst, IsNumbered, IsTour, Reaches, Rises}
use Rattle.cap_spec.specs.Pointers.{extent}
use Rattle.cap_spec.specs.Tree.{Tree, pointer_count}
use Rattle.cap_spec.specs.declared.Step.{Step}
use Rattle.cap_difference.specs.Reasons.{IsFirstSuchReason, PointerDiffers}
use Rattle.cap_difference.specs.declared.difference.Difference.{Difference}
use Rattle.cap_difference.specs.declared.reason.DifferenceReason.{DifferenceReason}
use Rattle.cap_difference.specs.declared.reason.DifferenceReason.TheVariants.{Segments, Trailing}

-- how many words the object has that a pointer leads to, and 0 if there is none
abbrev pub words_of_lead : Lead → ℕ
words_of_lead to_null = 0
words_of_lead (to_cap i) = 0
words_of_lead (to_object t b q) = extent q

-- the object of the pointer word at s:w has n words
abbrev pub HasWordsBelow : List (List ℕ) → ℕ → ℕ → ℕ → Type 0
HasWordsBelow m s w n = (k : ℕ) × (r : Lead) × Leads m s w k r × (n ≡ words_of_lead r)

-- the objects of the pointers that these paths reach have n words in all
abbrev pub HaveWords : List (List ℕ) → List (List Step) → ℕ → Type 0
HaveWords m [] n = n ≡ 0
HaveWords m (p ∷ ps) n =
    (level s w one rest : ℕ) × Reaches m p level s w × HasWordsBelow m s w one × HaveWords m ps rest × (n ≡ one + rest)

-- Up to the path a copy has the root word and the objects of the paths before it in preorder, and so it ends at word `end`.
pub record EndsBefore (m : List (List ℕ)) (path : List Step) (end : ℕ) : Type 0 where
  pub before : List (List Step)
  pub is_tour : IsTour m path (before ++ path ∷ [])
  pub words : ℕ
  pub have : HaveWords m before words
  pub ends : end ≡ 1 + words

-- The pointer that the path reaches isn't as a copy has it, if all before are.
pub record DiffersAt (m : List (List ℕ)) (path : List Step) : Type 0 where
  pub level : ℕ
  pub segment : ℕ
  pub word : ℕ
  pub end : ℕ
  pub reason : DifferenceReason
  pub reached : Reaches m path level segment word
  pub ends : EndsBefore m path end
  pub differs : PointerDiffers m segment word end reason

-- The pointer word at s:w, of this number in preorder, is the first that isn't as a copy has it, for this reason first.
pub record IsFirstPointer (m : List (List ℕ)) (s w number : ℕ) (reason : DifferenceReason) : Type 0 where
  pub path : List Step
  pub numbered : IsNumbered m path s w number
  pub end : ℕ
  pub ends : EndsBefore m path end
  pub differs : IsFirstSuchReason (PointerDiffers m s w end) reason
  pub first : IsFirst (DiffersAt m) path

-- All pointers are as a copy has them, and words of segment 0 come after their objects, from word `end` on. The message has this
-- many pointers.
pub record HasWordsAfter (m : List (List ℕ)) (end number : ℕ) : Type 0 where
  pub paths : List (List Step)
  pub rising : Rises paths
  pub reached : (path : List Step) → IsOneOf path paths → (level s w : ℕ) × Reaches m path level s w
  pub all : (path : List Step) (level s w : ℕ) → Reaches m path level s w → IsOneOf path paths
  pub words : ℕ
  pub have : HaveWords m paths words
  pub ends : end ≡ 1 + words
  pub after : end < length (segment_of m 0)
  pub same : (path : List Step) → ¬ DiffersAt m path
  pub tree : Tree
  pub charge : ℕ
  pub depth : ℕ
  pub denotes : Denotes m 0 0 tree charge depth
  pub many : number ≡ pointer_count tree

-- The message has another number of segments than one. The place 0:0 is named.
pub record HasOtherSegments (m : List (List ℕ)) (difference : Difference) : Type 0 where
  pub reason : difference.reason ≡ Segments
  pub many : length m ≢ 1
  pub segment : difference.segment ≡ 0
  pub word : difference.word ≡ 0
  pub pointers : difference.pointers ≡ 0
  pub end : difference.end ≡ 1

-- It has one segment, with words after all objects.
pub record IsTrailing (m : List (List ℕ)) (difference : Difference) : Type 0 where
  pub reason : difference.reason ≡ Trailing
  pub one : length m ≡ 1
  pub segment : difference.segment ≡ 0
  pub after : HasWordsAfter m difference.word difference.pointers
  pub end : difference.end ≡ difference.word

-- It has one segment, and this pointer is the first that differs. The copy has its object from word `end` on.
pub record IsAtPointer (m : List (List ℕ)) (difference : Difference) : Type 0 where
  pub one : length m ≡ 1
  pub first : IsFirstPointer m difference.segment difference.word difference.pointers difference.reason
  pub end : difference.end ≡ first.end

-- the first difference: the number of segments, then the first pointer that differs, then words after the last object
abbrev pub FirstDifference : List (List ℕ) → Difference → Type 0
FirstDifference m difference = HasOtherSegments m difference ⊎ (IsAtPointer m difference ⊎ IsTrailing m difference)
