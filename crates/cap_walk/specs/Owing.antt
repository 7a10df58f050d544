-- What the pointer words that a walk still has to look at denote (profile).
use Rattle.std.specs.Prelude.{List, [], max, ℕ, ⊤, ◌+◌, ◌∷◌, ◌≡◌, ◌≤◌}
use Rattle.cap_spec.specs.SpecNames.{Denotes, Tree, cap_count, pointer_count}
use Rattle.cap_walk.specs.Trails.{Ahead}

-- The trees of these words have this charge, number of pointers and number of capabilities in all. Their deepest level is one less than top.
abbrev pub Owe : List (List ℕ) → List Ahead → ℕ → ℕ → ℕ → ℕ → Type 0
Owe m [] charge top pointers caps = (charge ≡ 0) × (top ≡ 0) × (pointers ≡ 0) × (caps ≡ 0)
Owe m (a ∷ rest) charge top pointers caps =
    (t : Tree) × (c d c' top' pointers' caps' : ℕ) × Denotes m a.segment a.word t c d × Owe m rest c' top' pointers' caps'
    × (charge ≡ c + c') × (top ≡ max (a.level + d) top') × (pointers ≡ pointer_count t + pointers') × (caps ≡ cap_count t + caps')

-- what a walk has counted so far
pub record Counted : Type 0 where
  pub charge : ℕ
  -- the deepest level of an object
  pub depth : ℕ
  pub pointers : ℕ
  pub caps : ℕ

-- the root denotes this tree, whose numbers are those counted so far and those owed
pub record Completes (m : List (List ℕ)) (counted : Counted) (charge top pointers caps : ℕ) (t : Tree) (d : ℕ) : Type 0 where
  pub denotes : Denotes m 0 0 t (counted.charge + charge) d
  pub depth : d + 1 ≡ max (counted.depth + 1) top
  pub pointer_total : pointer_count t ≡ counted.pointers + pointers
  pub cap_total : cap_count t ≡ counted.caps + caps

-- Whatever the words ahead denote completes a tree of the root.
pub record IsCount (m : List (List ℕ)) (counted : Counted) (ahead : List Ahead) : Type 0 where
  pub completes : (charge top pointers caps : ℕ) → Owe m ahead charge top pointers caps → (t : Tree) × (d : ℕ)
      × Completes m counted charge top pointers caps t d

-- no level ahead is more than one below the deepest so far
abbrev pub AreInLevels : ℕ → List Ahead → Type 0
AreInLevels depth [] = ⊤
AreInLevels depth (a ∷ rest) = (1 ≤ a.level) × (a.level ≤ depth + 1) × AreInLevels depth rest
