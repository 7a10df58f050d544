-- What a source of the plain encoding has still to read (profile).
use Rattle.std.specs.Prelude.{List, Option, [], option_map, ℕ}
use Rattle.cap_words.specs.declared.byte_io.Phase.{Phase}
use Rattle.cap_words.specs.declared.byte_io.Phase.TheVariants.{Ended, Failed, Open}

-- what it will still read of the bytes to come: nothing once it has ended or failed
abbrev pub bytes_left : Phase → Option (List ℕ) → Option (List ℕ)
bytes_left Open known = known
bytes_left Ended known = option_map (λ _. []) known
bytes_left Failed known = option_map (λ _. []) known
