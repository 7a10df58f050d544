-- The last line of a text, which gives a reason (profile).
use Rattle.std.specs.Prelude.{Bool, List, [], codes, false, if◌then◌else◌, true, ℕ, ◌++◌, ◌==◌, ◌∷◌, ◌≡◌}

-- a text has no two blanks in a row, also with this character before it
abbrev pub is_spaced : ℕ → List ℕ → Bool
is_spaced c [] = true
is_spaced c (d ∷ ds) = if c == 32 then (if d == 32 then false else is_spaced d ds) else is_spaced d ds

-- the last of some lines gives a sentence as the reason, which has no two blanks in a row
pub record GivesReason (lines sentence : List ℕ) : Type 0 where
  pub before : List ℕ
  pub last : lines ≡ before ++ ((codes "  reason " ++ sentence) ++ 10 ∷ [])
  pub spaced : is_spaced 32 (codes "reason " ++ sentence) ≡ true
