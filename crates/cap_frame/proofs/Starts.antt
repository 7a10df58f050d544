-- Where segments start that are one after the other.
use Rattle.std.proofs.Common.{List, drop, length, sum, take, ℕ, ◌++◌, ◌≡◌}
use Rattle.cap_frame.specs.Bytes.{starts_of}

-- The starts of the first s segments were reported, and the next one starts at this word.
pub record StartsSoFar (sizes : List ℕ) (s at : ℕ) (starts : List ℕ) : Type 0 where
  pub many : length starts ≡ s
  pub at_is : at ≡ sum (take s sizes)
  pub whole : starts ++ starts_of at (drop s sizes) ≡ starts_of 0 sizes
