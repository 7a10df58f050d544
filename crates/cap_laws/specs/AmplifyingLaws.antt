-- Charges and word limits (profile).
use Rattle.std.specs.Prelude.{List, ℕ, ◌<◌, ◌≤◌}
use Rattle.cap_spec.specs.SpecNames.{Denotes, Tree, unamplified}

-- the charge is within the unamplified limit for each limit that it is within
abbrev pub IsWithinEach : List (List ℕ) → ℕ → Type 0
IsWithinEach m charge = (limit : ℕ) → charge ≤ limit → charge ≤ unamplified m limit

-- the charge of what the message denotes is within it for none
abbrev pub IsWithinNone : List (List ℕ) → Type 0
IsWithinNone m = (limit : ℕ) (t : Tree) (c d : ℕ) → Denotes m 0 0 t c d → unamplified m limit < c
