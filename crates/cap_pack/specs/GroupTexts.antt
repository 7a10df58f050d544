-- The text of words that one group encodes (profile; standard: Packing).
use Rattle.std.specs.Prelude.{List, [], length, ℕ, ◌∷◌}
use Rattle.cap_spec.specs.Packing.{group_text}

-- of a word and those after it
abbrev pub front_text : List ℕ → List ℕ
front_text [] = []
front_text (w ∷ more) = group_text w (length more) more
