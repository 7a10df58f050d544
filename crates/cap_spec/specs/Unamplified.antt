-- A word limit that follows from what was sent (profile; standard: Security Considerations).
use Rattle.std.specs.Prelude.{List, min, sum, ℕ, ◌+◌}
use Rattle.cap_spec.specs.Frames.{sizes_of}

-- how many words more than its segments have an unamplified message may be charged
abbrev pub slack : ℕ
slack = 4096

-- the smaller of a word limit and the words of the message's segments with the slack
abbrev pub unamplified : List (List ℕ) → ℕ → ℕ
unamplified m words = min words (sum (sizes_of m) + slack)
