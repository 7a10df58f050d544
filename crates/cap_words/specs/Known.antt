-- What is known of the bytes of a reader, of which std doesn't say that they are numbers below 256 (profile).
use Rattle.std.specs.Prelude.{Bool, List, None, Option, Some, [], if◌then◌else◌, nat_lt, true, ℕ, ◌&&◌, ◌∷◌}

-- the numbers are bytes
abbrev pub are_bytes : List ℕ → Bool
are_bytes [] = true
are_bytes (b ∷ bytes) = nat_lt b 256 && are_bytes bytes

-- the numbers that a reader says are to come, if they are bytes: it can give no other numbers
abbrev pub known_bytes : Option (List ℕ) → Option (List ℕ)
known_bytes None = None
known_bytes (Some bytes) = if are_bytes bytes then Some bytes else None
