-- What the answer of a following says of a pointer word (standard: Structs, Lists; the charge is the profile's).
use Rattle.std.specs.Prelude.{Bool, Err, List, Ok, Result, false, if◌then◌else◌, length, ℕ, ◌+◌, ◌<◌, ◌==◌, ◌^◌, ◌≡◌, ◌≢◌, ◌≤◌}
use Rattle.cap_spec.specs.Following.{IsComposite, TagFits}
use Rattle.cap_spec.specs.ObjectShapes.{IsPointersShape, IsScalarsShape, IsStructShape, IsStructsShape}
use Rattle.cap_spec.specs.SpecNames.{Finds, Leads, Wrong, extra, to_cap, to_null, HasWord, segment_of, code, extent, kind}
use Rattle.cap_spec.specs.SpecNames.{list_size}
use Rattle.cap_spec.specs.declared.Reason.{Reason}
use Rattle.cap_ptr.specs.declared.shapes.Followed.{Followed}
use Rattle.cap_ptr.specs.declared.shapes.Shape.{Shape}
use Rattle.cap_ptr.specs.declared.shapes.Shape.TheVariants.{Pointers, Scalars, Struct, Structs}
use Rattle.cap_ptr.specs.declared.shapes.Target.{Target}
use Rattle.cap_ptr.specs.declared.shapes.Followed.TheVariants as followed

-- the word q is that of a struct, or of a list that has no tag
abbrev pub IsPlain : ℕ → Type 0
IsPlain q = (kind q < 2) × (kind q ≡ 1 → code q ≢ 7)

-- a word is a pointer to a list of structs
abbrev pub is_structs : ℕ → Bool
is_structs p = if kind p == 1 then code p == 7 else false

-- the shape that the word q encodes, for a list of structs with its tag word
abbrev pub IsShape : ℕ → ℕ → Shape → Type 0
IsShape q tag (Struct d p) = IsStructShape q d p
IsShape q tag (Scalars c n) = IsScalarsShape q c n
IsShape q tag (Pointers n) = IsPointersShape q n
IsShape q tag (Structs size n d p) = IsStructsShape q tag size n d p

-- The object of the word q at t:b, with this tag word if it is a list of structs, has n words, charge c over k pads, and shape x.
pub record IsShapedObject (m : List (List ℕ)) (k t b q tag n c : ℕ) (x : Shape) : Type 0 where
  pub tagged : IsComposite q → HasWord m t b tag × TagFits tag (list_size q)
  pub words : n ≡ extent q
  pub charge : c ≡ k + extent q + extra q tag
  pub small : c < 2 ^ 31
  pub shape : IsShape q tag x

-- The pointer word at s:w leads to this object, which sits.
pub record FindsObject (m : List (List ℕ)) (s w k t b q tag n c : ℕ) (x : Shape) : Type 0 where
  pub finds : Finds m s w k t b q
  pub object : IsShapedObject m k t b q tag n c x

-- the pointer word at s:w leads to this target, of the word q and this tag
abbrev pub FindsTargetBy : List (List ℕ) → ℕ → ℕ → ℕ → ℕ → Target → Type 0
FindsTargetBy m s w q tag x = FindsObject m s w x.pads x.segment x.start q tag x.words x.charge x.shape

-- the pointer word at s:w leads to this target
abbrev pub FindsTarget : List (List ℕ) → ℕ → ℕ → Target → Type 0
FindsTarget m s w x = (q tag : ℕ) × FindsTargetBy m s w q tag x

-- The words of the list of structs of the word q at t:b lie inside their segment, this tag first.
pub record HasListAt (m : List (List ℕ)) (t b q tag : ℕ) : Type 0 where
  pub list : IsComposite q
  pub exists : t < length m
  pub inside : b + extent q ≤ length (segment_of m t)
  pub has : HasWord m t b tag

-- what the pointer word at s:w leads to
abbrev pub IsFollowed : List (List ℕ) → ℕ → ℕ → Followed → Type 0
IsFollowed m s w (followed.Null k) = Leads m s w k to_null
IsFollowed m s w (followed.Cap k i) = Leads m s w k (to_cap i)
IsFollowed m s w (followed.Target x) = FindsTarget m s w x

-- the answer says where the pointer word at s:w leads, or the first reason why it can't be followed
abbrev pub IsAnswer : List (List ℕ) → ℕ → ℕ → Result Followed Reason → Type 0
IsAnswer m s w (Ok f) = IsFollowed m s w f
IsAnswer m s w (Err v) = Wrong m s w v

-- what following costs, in words
abbrev pub charge_of : Followed → ℕ
charge_of (followed.Null k) = k
charge_of (followed.Cap k i) = k
charge_of (followed.Target x) = x.charge

-- The answer is the object of the word q at t:b, over k pads.
pub record AnswersObject (m : List (List ℕ)) (k t b q : ℕ) (answer : Result Followed Reason) (x : Target) (tag : ℕ) : Type 0 where
  pub ok : answer ≡ Ok (followed.Target x)
  pub pads : x.pads ≡ k
  pub segment : x.segment ≡ t
  pub start : x.start ≡ b
  pub object : IsShapedObject m k t b q tag x.words x.charge x.shape
