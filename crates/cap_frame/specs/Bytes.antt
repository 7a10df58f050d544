-- The words of segments whose bytes follow one another, as in a framed message after its table
-- (standard: Serialization Over a Stream).
use Rattle.std.specs.Prelude.{List, [], drop, take, ℕ, ◌*◌, ◌+◌, ◌∷◌}
use Rattle.cap_spec.specs.Plain.{plain_words}

-- bytes cut into segments, by how many words each has; bytes after the last segment belong to none
abbrev pub cut : List ℕ → List ℕ → List (List ℕ)
cut [] bytes = []
cut (n ∷ ns) bytes = plain_words (take (8 * n) bytes) ∷ cut ns (drop (8 * n) bytes)

-- where each segment starts, in words, where the first of them starts at this word
abbrev pub starts_of : ℕ → List ℕ → List ℕ
starts_of at [] = []
starts_of at (n ∷ ns) = at ∷ starts_of (at + n) ns
