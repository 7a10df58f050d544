-- What may be demanded of the pointers on a path beside the limits (profile).
use Rattle.std.specs.Prelude.{IsTrue, List, [], length, ℕ, ◌++◌, ◌∷◌, ◌≡◌, ◌≤◌}
use Rattle.cap_spec.specs.Getting.{Charges, IsStartOf}
use Rattle.cap_spec.specs.SpecNames.{AreOnPath, IsRefusedOnPath, IsOneOf, Reaches, IsLax, IsLaxAt}
use Rattle.cap_spec.specs.declared.Lax.{Lax}
use Rattle.cap_spec.specs.declared.Step.{Step}
use Rattle.cap_spec.specs.declared.StrictRefusal.{StrictRefusal}
use Rattle.cap_spec.specs.declared.StrictRefusal.TheVariants.{ManySegments, Pointer, Refused}
use Rattle.cap_walk.specs.Demands.{words_under}
use Rattle.cap_walk.specs.declared.demands.Demands.{Demands}

-- the pointers on the path keep to the limits
abbrev pub KeepsToLimits : List (List ℕ) → ℕ → ℕ → List Step → Type 0
KeepsToLimits m words depth path = (left : ℕ) × Charges m words depth path left

-- The pointer at s:w is the first on the path that common readers reject: the shortest beginning of the
-- path that reaches such a pointer reaches it. Up to it `pointers` pointers are on the path.
pub record IsFirstLaxOnPath (m : List (List ℕ)) (path : List Step) (s w : ℕ) (what : Lax) (pointers : ℕ) : Type 0 where
  pub way : List Step
  pub begin : IsStartOf way path
  pub before : List (List Step)
  pub level : ℕ
  pub reached : Reaches m way level s w
  pub on_path : AreOnPath m way (before ++ way ∷ [])
  pub lax : IsLaxAt m s w what
  pub first : (q : List Step) → IsOneOf q before → ¬ IsLax m q
  pub number : pointers ≡ length (before ++ way ∷ [])

-- The message has at most 511 segments, and common readers reject no pointer on the path.
abbrev pub IsStrictOnPath : List (List ℕ) → List Step → Type 0
IsStrictOnPath m path = (length m ≤ 511) × ((q : List Step) → IsStartOf q path → ¬ IsLax m q)

-- The pointers on the path keep to the limits, and are strict where this is demanded.
pub record MeetsOnPath (demands : Demands) (m : List (List ℕ)) (words depth : ℕ) (path : List Step) : Type 0 where
  pub within : KeepsToLimits m (words_under demands m words) depth path
  pub strict : IsTrue demands.strict → IsStrictOnPath m path

-- Why the pointers on a path don't meet the demands: one of them is refused within this limit. Or they
-- keep to the limits and aren't strict where this is demanded: first the message has 512 segments, then
-- the first pointer on the path that common readers reject.
abbrev pub IsPathFault : Demands → List (List ℕ) → ℕ → ℕ → List Step → StrictRefusal → Type 0
IsPathFault demands m words depth path (Refused refusal) =
    IsRefusedOnPath m (words_under demands m words) depth path refusal
IsPathFault demands m words depth path ManySegments =
    IsTrue demands.strict × KeepsToLimits m (words_under demands m words) depth path × (length m ≡ 512)
IsPathFault demands m words depth path (Pointer what s w pointers) =
    IsTrue demands.strict × KeepsToLimits m (words_under demands m words) depth path × (length m ≤ 511)
    × IsFirstLaxOnPath m path s w what pointers
