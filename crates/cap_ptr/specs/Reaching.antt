-- Which word takes the place of a pointer word, once its landing pads are passed
-- (standard: Inter-Segment Pointers).
use Rattle.std.specs.Prelude.{List, pos, ℕ, ◌+◌}
use Rattle.cap_spec.specs.Following.{IsTwoPad, Lead, Leads, Says, Wrong, to_object}
use Rattle.cap_spec.specs.Messages.{HasWord}
use Rattle.cap_spec.specs.Pointers.{IsFar, IsReserved, far_segment, pad}
use Rattle.cap_spec.specs.declared.Reason.TheVariants.{PadIsFar, Reserved}

-- Over k pads, the word q at t:b takes the place of the pointer word at s:w.
pub record ResolvesTo (m : List (List ℕ)) (s w k t b q : ℕ) : Type 0 where
  pub leads : (r : Lead) → Says t b q r → Leads m s w k r
  pub reserved : IsReserved q → Wrong m s w Reserved
  pub far : IsFar q → Wrong m s w PadIsFar

-- The pointer word at s:w has a pad of the two words f and q.
pub record HasTwoPad (m : List (List ℕ)) (s w p f q : ℕ) : Type 0 where
  pub word : HasWord m s w p
  pub both : IsTwoPad p
  pub first : HasWord m (far_segment p) (pad p) f
  pub second : HasWord m (far_segment p) (pad p + 1) q

-- the pointer word at s:w leads with k pads to the object of the word q, which starts at t:b
abbrev pub LeadsTo : List (List ℕ) → ℕ → ℕ → ℕ → ℕ → ℕ → ℕ → Type 0
LeadsTo m s w k t b q = Leads m s w k (to_object t (pos b) q)
