-- The canonical words of a message, and when its words are its own (standard: Canonicalization).
use Rattle.std.specs.Prelude.{List, [], false, ℕ, ◌∷◌, ◌≡◌}
use Rattle.cap_spec.specs.Canonical.{layout, trim}
use Rattle.cap_spec.specs.Denoting.{Denotes}
use Rattle.cap_spec.specs.Tree.{Tree, has_cap}

-- The root denotes a tree without capabilities, and these words are the layout of what is left of it after trimming.
pub record HasCopy (m : List (List ℕ)) (words : List ℕ) : Type 0 where
  pub tree : Tree
  pub charge : ℕ
  pub depth : ℕ
  pub denotes : Denotes m 0 0 tree charge depth
  pub no_caps : has_cap tree ≡ false
  pub laid : words ≡ layout (trim tree)

-- The message has one segment, and its words are its own canonical copy.
abbrev pub IsCanonical : List (List ℕ) → Type 0
IsCanonical m = (words : List ℕ) × HasCopy m words × (m ≡ words ∷ [])
