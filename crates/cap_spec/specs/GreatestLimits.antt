-- The greatest limits that a caller may set (profile).
use Rattle.std.specs.Prelude.{ℕ}

-- the greatest word limit, of the words of a message and of its charge
abbrev pub most_words : ℕ
most_words = 268435456

-- the greatest depth limit
abbrev pub most_depth : ℕ
most_depth = 256
