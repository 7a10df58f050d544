-- The tree that the root of an accepted message denotes, and what is left of it (profile).
use Rattle.std.specs.Prelude.{List, ℕ, ◌<◌, ◌^◌, ◌↔◌, ◌≡◌, ◌≤◌}
use Rattle.cap_spec.specs.SpecNames.{layout, trim, Denotes, most_depth, most_words, Tree}

-- The root denotes a tree of this depth, within the greatest limits.
pub record HasTree (m : List (List ℕ)) (depth : ℕ) : Type 0 where
  pub tree : Tree
  pub charge : ℕ
  pub denotes : Denotes m 0 0 tree charge depth
  pub few : charge ≤ most_words
  pub shallow : depth ≤ most_depth

-- P holds of what is left of that tree when it is trimmed
abbrev pub ForTrimmed : List (List ℕ) → (Tree → Type 0) → Type 0
ForTrimmed m P = (t : Tree) (c d : ℕ) → Denotes m 0 0 t c d → P (trim t)

-- Another message, of a charge below 2^29, has these words for its copy exactly if its trimmed tree is that of this one.
abbrev pub IdentifiesTree : List (List ℕ) → List ℕ → Type 0
IdentifiesTree m words = (t u : Tree) (c d c' d' : ℕ) (other : List (List ℕ)) → Denotes m 0 0 t c d
    → Denotes other 0 0 u c' d' → c' < 2 ^ 29 → (layout (trim u) ≡ words) ↔ (trim u ≡ trim t)
