-- What comes of looking at one pointer word of a walk (profile).
use Rattle.std.specs.Prelude.{List, None, Option, Some, [], if◌then◌else◌, ℕ, ⊤, ◌+◌, ◌<◌, ◌==◌, ◌≡◌, ◌≢◌, ◌≤◌}
use Rattle.cap_spec.specs.Denoting.{element_levels, levels_below}
use Rattle.cap_spec.specs.SpecNames.{Finds, HasTag, Leads, extra, to_cap, to_null, HasWord, code, data_size, extent, kind}
use Rattle.cap_spec.specs.SpecNames.{list_size, middle, pointer_size, IsLaxAt}
use Rattle.cap_spec.specs.declared.Lax.{Lax}
use Rattle.cap_spec.specs.declared.Step.{Step}
use Rattle.cap_spec.specs.declared.Step.TheVariants.{Item, Ptr}
use Rattle.cap_ptr.specs.Reaching.{ResolvesTo}
use Rattle.cap_ptr.specs.Shapes.{IsFollowed, charge_of}
use Rattle.cap_ptr.specs.declared.shapes.Followed.{Followed}
use Rattle.cap_ptr.specs.Levels.{levels_of}
use Rattle.cap_walk.specs.PointerRuns.{OptionIn, PointerWord, element_places, option_spots, row_places}
use Rattle.cap_walk.specs.Trails.{Ahead, element_rows, row}
use Rattle.cap_ptr.specs.declared.place.Place.{Place}
use Rattle.cap_walk.specs.declared.looking.Looked.{Looked}
use Rattle.cap_walk.specs.declared.looking.Looked.TheVariants.{Cap, Null, Object}
use Rattle.cap_walk.specs.declared.pointer_run.PointerRun.{PointerRun}
use Rattle.cap_ptr.specs.declared.shapes.Followed.TheVariants as followed

-- the pointer words of the object of shape q at t:b, of this level
abbrev pub object_places : ℕ → ℕ → ℕ → ℕ → ℕ → List PointerWord
object_places q tag t b level =
    if kind q == 0 then row_places (level + 1) t (b + data_size q) (pointer_size q) else
    (if code q == 6 then row_places (level + 1) t b (list_size q) else
    (if code q == 7 then element_places (level + (element_levels 1 + 1)) t (b + 1) (data_size tag) (pointer_size tag) (middle tag) else []))

-- and as words ahead, reached from base
abbrev pub object_children : List Step → ℕ → ℕ → ℕ → ℕ → ℕ → List Ahead
object_children base q tag t b level =
    if kind q == 0 then row base (level + 1) Ptr t (b + data_size q) 0 (pointer_size q) else
    (if code q == 6 then row base (level + 1) Item t b 0 (list_size q) else
    (if code q == 7 then element_rows base (level + (element_levels 1 + 1)) t (b + 1) (data_size tag) (pointer_size tag) 0 (middle tag) else []))

-- the words of the run lead to levels above this one, and to none past the limit
abbrev pub RunRises : ℕ → ℕ → Option PointerRun → Type 0
RunRises level depth None = ⊤
RunRises level depth (Some f) = (level + 1 ≤ f.level) × (f.level ≤ depth + 1)

-- the word at t:b takes the place of the pointer word at s:w, over k pads, if it is that of an object
abbrev pub MayReplace : List (List ℕ) → ℕ → ℕ → ℕ → ℕ → ℕ → Type 0
MayReplace m s w k t b = (q : ℕ) → HasWord m t b q → kind q < 2 → ResolvesTo m s w k t b q

-- the word at s:w is neither null nor far nor a capability
abbrev pub IsObjectWord : List (List ℕ) → ℕ → ℕ → Type 0
IsObjectWord m s w = (q : ℕ) → HasWord m s w q → (kind q < 2) × (q ≢ 0)

-- the pointer at s:w has none of the forms that common readers reject
abbrev pub IsNotLax : List (List ℕ) → ℕ → ℕ → Type 0
IsNotLax m s w = (what : Lax) → ¬ IsLaxAt m s w what

-- An object is found, which keeps to the limits. Its pointer words are those of the run, and its words those of the place.
pub record LooksObject (m : List (List ℕ)) (words depth consumed s w level cost deep : ℕ) (run : Option PointerRun) (place : Place)
    (k t b q tag : ℕ) : Type 0 where
  pub finds : Finds m s w k t b q
  pub tagged : HasTag m t b q tag
  pub charge : cost ≡ k + extent q + extra q tag
  pub within : consumed + cost ≤ words
  pub deepest : deep ≡ level + levels_below q tag
  pub shallow : deep ≤ depth
  pub places : option_spots run ≡ object_places q tag t b level
  pub inside : OptionIn m run
  pub rises : RunRises level depth run
  pub own : place ≡ record { segment = t; start = b; words = extent q }

abbrev pub IsLooked : List (List ℕ) → ℕ → ℕ → ℕ → ℕ → ℕ → ℕ → Looked → Type 0
IsLooked m words depth consumed s w level (Null cost) = Leads m s w cost to_null × (consumed + cost ≤ words)
IsLooked m words depth consumed s w level (Cap cost) = ((i : ℕ) × Leads m s w cost (to_cap i)) × (consumed + cost ≤ words)
IsLooked m words depth consumed s w level (Object cost deep run place) =
    (k t b q tag : ℕ) × LooksObject m words depth consumed s w level cost deep run place k t b q tag

-- the deepest level that an object of this level takes, and 0 if there is none
abbrev pub deepest_of : ℕ → Followed → ℕ
deepest_of level (followed.Target x) = level + levels_of x.shape
deepest_of level _ = 0

-- The pointer word at s:w leads there, within the words that are left and the depth limit.
pub record FollowsWithin (m : List (List ℕ)) (left depth s w level : ℕ) (f : Followed) : Type 0 where
  pub followed : IsFollowed m s w f
  pub within : charge_of f ≤ left
  pub shallow : deepest_of level f ≤ depth
