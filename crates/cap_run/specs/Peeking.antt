-- What buffered bytes and words to come hold (profile).
use Rattle.std.specs.Prelude.{List, sum, ℕ, ◌++◌, ◌≡◌, ◌≤◌}
use Rattle.cap_spec.specs.Frames.{Frames, sizes_of}
use Rattle.cap_frame.specs.Fronts.{IsFront}

-- these bytes begin with the frame of a message within the limit
abbrev pub ShowsFrame : ℕ → List ℕ → Type 0
ShowsFrame limit bytes = (m : List (List ℕ)) × (n : ℕ) × IsFront limit bytes m n

-- These words begin with the frame of a message within the limit.
pub record BeginsWithFrame (limit : ℕ) (words : List ℕ) : Type 0 where
  pub message : List (List ℕ)
  pub own : List ℕ
  pub rest : List ℕ
  pub parts : words ≡ own ++ rest
  pub frames : Frames own message
  pub within : sum (sizes_of message) ≤ limit
