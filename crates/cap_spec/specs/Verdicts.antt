-- When a refusal is justified (profile; standard: Security Considerations).
use Rattle.std.specs.Prelude.{List, Some, [], slice_get, ℕ, ◌+◌, ◌<◌, ◌∷◌, ◌≡◌, ◌≤◌}
use Rattle.cap_spec.specs.Denoting.{Finds, levels_below}
use Rattle.cap_spec.specs.Following.{HasTag, Wrong}
use Rattle.cap_spec.specs.Lists.{AreDistinct}
use Rattle.cap_spec.specs.Paths.{Costs, Reaches}
use Rattle.cap_spec.specs.declared.Reason.{Reason}
use Rattle.cap_spec.specs.declared.Reason.TheVariants.{DepthLimit, NoRoot, WordLimit}
use Rattle.cap_spec.specs.declared.Refusal.{Refusal}
use Rattle.cap_spec.specs.declared.Step.{Step}

-- these paths reach pointers that can be followed, which costs this many words in all
abbrev pub CostOf : List (List ℕ) → List (List Step) → ℕ → Type 0
CostOf m [] cost = cost ≡ 0
CostOf m (p ∷ ps) cost =
    (level s w one rest : ℕ) × Reaches m p level s w × Costs m s w one × CostOf m ps rest × (cost ≡ one + rest)

-- The word limit: paths that cost at most the limit, and with one more path to s:w more than that
pub record PastLimit (m : List (List ℕ)) (limit s w : ℕ) : Type 0 where
  pub paths : List (List Step)
  pub last : List Step
  pub level : ℕ
  pub before : ℕ
  pub one : ℕ
  pub reached : Reaches m last level s w
  pub costs : Costs m s w one
  pub others : CostOf m paths before
  pub distinct : AreDistinct (last ∷ paths)
  pub within : before ≤ limit
  pub past : limit < before + one

abbrev pub IsReachedWrong : List (List ℕ) → ℕ → ℕ → Reason → Type 0
IsReachedWrong m s w v = (path : List Step) × (level : ℕ) × Reaches m path level s w × Wrong m s w v

-- The pointer at s:w leads to an object of this level that takes levels past the limit.
abbrev pub IsDeepAt : List (List ℕ) → ℕ → ℕ → ℕ → ℕ → Type 0
IsDeepAt m depth s w level =
    (k t b q tag : ℕ) × Finds m s w k t b q × HasTag m t b q tag × (depth < level + levels_below q tag)

-- A path reaches s:w, which leads to an object past the depth limit.
abbrev pub IsTooDeep : List (List ℕ) → ℕ → ℕ → ℕ → Type 0
IsTooDeep m depth s w = (path : List Step) × (level : ℕ) × Reaches m path level s w × IsDeepAt m depth s w level

-- There is no root pointer, which is the reason. The place 0:0 is named.
pub record LacksRoot (m : List (List ℕ)) (s w : ℕ) (v : Reason) : Type 0 where
  pub empty : slice_get m 0 ≡ Some []
  pub segment : s ≡ 0
  pub word : w ≡ 0
  pub reason : v ≡ NoRoot

pub data JustifiedBy (m : List (List ℕ)) (words depth s w : ℕ) (v : Reason) : Type 0 where
  no_root : LacksRoot m s w v → JustifiedBy m words depth s w v
  is_wrong : IsReachedWrong m s w v → JustifiedBy m words depth s w v
  too_deep : v ≡ DepthLimit → IsTooDeep m depth s w → JustifiedBy m words depth s w v
  past_limit : v ≡ WordLimit → PastLimit m words s w → JustifiedBy m words depth s w v

abbrev pub Justified : List (List ℕ) → ℕ → ℕ → Refusal → Type 0
Justified m words depth refusal = JustifiedBy m words depth refusal.segment refusal.word refusal.reason
