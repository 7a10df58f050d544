-- Words that are in a segment, addressed by their positions (profile).
use Rattle.std.specs.Prelude.{List, Some, [], length, slice_get, ℕ, ◌+◌, ◌∷◌, ◌≡◌, ◌≤◌}

-- these words are in a segment, from b on
abbrev pub HasWordsAt : List ℕ → ℕ → List ℕ → Type 0
HasWordsAt words b [] = b ≤ length words
HasWordsAt words b (x ∷ xs) = (slice_get words b ≡ Some x) × HasWordsAt words (b + 1) xs
