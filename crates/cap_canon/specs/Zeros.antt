-- Zeros in place of words in a row (profile).
use Rattle.std.specs.Prelude.{List, drop, replicate, take, ℕ, ◌++◌, ◌+◌}

-- n words from p on are zero
abbrev pub zeros_put : ℕ → ℕ → List ℕ → List ℕ
zeros_put p n words = take p words ++ (replicate n 0 ++ drop (p + n) words)
