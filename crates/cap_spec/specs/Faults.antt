-- The first pointer in preorder at which anything is wrong, or a limit is passed (profile; standard: Security Considerations).
use Rattle.std.specs.Prelude.{List, [], ℕ, ◌++◌, ◌+◌, ◌<◌, ◌∷◌, ◌≡◌, ◌≤◌, ◌⊎◌}
use Rattle.cap_spec.specs.Following.{Wrong}
use Rattle.cap_spec.specs.Paths.{Costs, IsFirst, IsNumbered}
use Rattle.cap_spec.specs.Verdicts.{CostOf, IsDeepAt, LacksRoot}
use Rattle.cap_spec.specs.declared.Reason.{Reason}
use Rattle.cap_spec.specs.declared.Reason.TheVariants.{DepthLimit, WordLimit}
use Rattle.cap_spec.specs.declared.Refusal.{Refusal}
use Rattle.cap_spec.specs.declared.Step.{Step}

-- The first reason that applies at a pointer word, when `before` words were charged before it.
-- First it is wrong, then past the depth limit, then past the word limit.
pub data IsFirstReason (m : List (List ℕ)) (words depth before s w level : ℕ) (v : Reason) : Type 0 where
  is_wrong : Wrong m s w v → IsFirstReason m words depth before s w level v
  is_deep : v ≡ DepthLimit → IsDeepAt m depth s w level → IsFirstReason m words depth before s w level v
  is_past : (cost : ℕ) → v ≡ WordLimit → ¬ IsDeepAt m depth s w level → Costs m s w cost → words < before + cost
      → IsFirstReason m words depth before s w level v

-- The path reaches the pointer that the refusal names, which has this number. The pointers before it in preorder can be
-- followed at this charge. The reason is the first that applies after it.
pub record IsFaultAt (m : List (List ℕ)) (words depth : ℕ) (path : List Step) (refusal : Refusal) : Type 0 where
  pub numbered : IsNumbered m path refusal.segment refusal.word refusal.pointers
  pub before : List (List Step)
  pub charge : ℕ
  pub whole : numbered.tour ≡ before ++ path ∷ []
  pub costs : CostOf m before charge
  pub reason : IsFirstReason m words depth charge refusal.segment refusal.word numbered.level refusal.reason

-- The refusal names the first pointer in preorder at which there is such a fault.
pub record IsFirstFault (m : List (List ℕ)) (words depth : ℕ) (refusal : Refusal) : Type 0 where
  pub path : List Step
  pub fault : IsFaultAt m words depth path refusal
  pub first : IsFirst (λ p. (r : Refusal) × IsFaultAt m words depth p r) path
  pub few : refusal.pointers ≤ words + 1

-- The refusal says that there is no root pointer.
pub record HasNoRoot (m : List (List ℕ)) (refusal : Refusal) : Type 0 where
  pub lacks : LacksRoot m refusal.segment refusal.word refusal.reason
  pub pointers : refusal.pointers ≡ 0

-- why a message is refused
abbrev pub IsRefused : List (List ℕ) → ℕ → ℕ → Refusal → Type 0
IsRefused m words depth refusal = HasNoRoot m refusal ⊎ IsFirstFault m words depth refusal
