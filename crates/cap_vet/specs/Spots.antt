-- Which spot of a message a node keeps (profile).
use Rattle.std.specs.Prelude.{List, length, ℕ, ◌+◌, ◌<◌, ◌≤◌}
use Rattle.cap_spec.specs.Messages.{segment_of}
use Rattle.cap_spec.specs.Paths.{element, word, Spot as Where}
use Rattle.cap_vet.specs.declared.nodes.spot.Spot.{Spot}
use Rattle.cap_vet.specs.declared.nodes.spot.Spot.TheVariants.{Element, Word}

-- the spot of the definitions
abbrev pub spot_of : Spot → Where
spot_of (Word s w) = word s w
spot_of (Element t b d p) = element t b d p

abbrev pub segment_at : Spot → ℕ
segment_at (Word s w) = s
segment_at (Element t b d p) = t

-- the word after its words
abbrev pub end_at : Spot → ℕ
end_at (Word s w) = w + 1
end_at (Element t b d p) = b + d + p

-- the words of the spot exist
abbrev pub SpotIn : List (List ℕ) → Spot → Type 0
SpotIn m spot = (segment_at spot < length m) × (end_at spot ≤ length (segment_of m (segment_at spot)))
