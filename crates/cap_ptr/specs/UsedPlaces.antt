-- The words that following a pointer uses, as places (profile).
use Rattle.std.specs.Prelude.{List, length, ℕ, ◌++◌, ◌+◌, ◌<◌, ◌≤◌}
use Rattle.cap_spec.specs.Occupying.{pads_of}
use Rattle.cap_spec.specs.SpecNames.{places, HasWord, segment_of, Occupies}
use Rattle.cap_ptr.specs.declared.place.Place.{Place}

-- Following the pointer word at s:w, if there is one, uses its pad words and the words of this place.
pub record UsesPlace (m : List (List ℕ)) (s w : ℕ) (p : Place) : Type 0 where
  pub used : (q : ℕ) → HasWord m s w q → Occupies m s w (pads_of q ++ places p.segment p.start p.words)
  pub exists : p.segment < length m
  pub inside : p.start + p.words ≤ length (segment_of m p.segment)

-- Following the pointer at s:w uses the words of this place alone.
pub record UsesAlone (m : List (List ℕ)) (s w : ℕ) (p : Place) : Type 0 where
  pub used : Occupies m s w (places p.segment p.start p.words)
  pub exists : p.segment < length m
  pub inside : p.start + p.words ≤ length (segment_of m p.segment)
