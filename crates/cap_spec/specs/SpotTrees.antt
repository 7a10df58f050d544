-- Which tree is at a spot of a message (profile).
use Rattle.std.specs.Prelude.{List, ℕ, ◌+◌, ◌≡◌}
use Rattle.cap_spec.specs.Denoting.{DenoteEach, Denotes, places, words_from}
use Rattle.cap_spec.specs.Paths.{Spot, element, word}
use Rattle.cap_spec.specs.Tree.{Tree, struct}

-- the tree that a pointer word denotes, or the struct that an element of a struct list is
abbrev pub DenotesAt : List (List ℕ) → Spot → Tree → Type 0
DenotesAt m (word s w) t = (c d : ℕ) × Denotes m s w t c d
DenotesAt m (element t b ds ps) (struct words ts) = (c d : ℕ) × (words ≡ words_from m t b ds) × DenoteEach m (places t (b + ds) ps) ts c d
DenotesAt m (element t b ds ps) _ = ⊥
