-- What an unpacker has still to give, by its phase and what it holds (profile).
use Rattle.std.specs.Prelude.{List, ℕ}
use Rattle.cap_words.specs.declared.byte_io.Phase.{Phase}
use Rattle.cap_words.specs.declared.byte_io.Phase.TheVariants.{Ended, Failed, Open}
use Rattle.cap_pack.specs.Course.{Course, course, ends, zeros_then}

-- what it gives of these bytes to come after this position, with `held` zero words to give and
-- `plain` literal words to read first
abbrev pub ahead : Phase → ℕ → ℕ → ℕ → List ℕ → Course
ahead Open held plain at bytes = zeros_then held at (course plain at bytes)
ahead Ended held plain at bytes = ends at
ahead Failed held plain at bytes = ends at
