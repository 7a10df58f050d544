-- How many words come before a segment (profile).
use Rattle.std.specs.Prelude.{List, [], length, suc, zero, ℕ, ◌+◌, ◌∷◌}

-- the words of the segments before segment s
abbrev pub start_of : List (List ℕ) → ℕ → ℕ
start_of m zero = 0
start_of [] (suc s) = 0
start_of (segment ∷ m) (suc s) = length segment + start_of m s
