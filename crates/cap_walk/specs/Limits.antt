-- What limits hold (profile).
use Rattle.std.specs.Prelude.{ℕ}
use Rattle.cap_walk.specs.declared.limits.Limits.{Limits}

-- the words that a walk may be charged
abbrev pub words_of : Limits → ℕ
words_of l = l.words

-- the deepest level that an object may have
abbrev pub depth_of : Limits → ℕ
depth_of l = l.depth
