-- Words that are written as bytes over bytes that are there already (profile).
use Rattle.std.specs.Prelude.{List, take, ℕ}
use Rattle.cap_spec.specs.Plain.{plain_words}

-- the first `count` words of the bytes
abbrev pub first_words : ℕ → List ℕ → List ℕ
first_words count bytes = take count (plain_words bytes)
