-- The five ways in which the reading of a message from words ends, faults of the input and of memory aside (profile).
use Rattle.std.specs.Prelude.{Bool, List, [], false, sum, ℕ, ◌%◌, ◌++◌, ◌+◌, ◌<◌, ◌^◌, ◌∷◌, ◌≡◌, ◌≤◌}
use Rattle.cap_spec.specs.Frames.{Frames, IsPartial, IsTable, sizes_of}

-- A prefix of the words frames a message within the limit.
pub record BeginsMessage (limit : ℕ) (words : List ℕ) : Type 0 where
  pub own : List ℕ
  pub rest : List ℕ
  pub message : List (List ℕ)
  pub whole : words ≡ own ++ rest
  pub frames : Frames own message
  pub within : sum (sizes_of message) ≤ limit

-- The first word gives more than 512 segments.
pub record GivesTooMany (words : List ℕ) : Type 0 where
  pub first : ℕ
  pub rest : List ℕ
  pub whole : words ≡ first ∷ rest
  pub many : 512 < first % 2 ^ 32 + 1

-- The words begin with a table of at most 512 segments, whose sizes are past the limit together.
pub record GivesTooMuch (limit : ℕ) (words : List ℕ) : Type 0 where
  pub table : List ℕ
  pub rest : List ℕ
  pub sizes : List ℕ
  pub whole : words ≡ table ++ rest
  pub is_table : IsTable table sizes
  pub past : limit < sum sizes

-- the five ways
pub data Ending : Type 0 where
  message none too_many too_large partial : Ending

-- what each says of the words still to come, and of whether their input then ends inside a word
abbrev pub EndsIn : ℕ → List ℕ → Bool → Ending → Type 0
EndsIn limit words cut message = BeginsMessage limit words
EndsIn limit words cut none = (words ≡ []) × (cut ≡ false)
EndsIn limit words cut too_many = GivesTooMany words
EndsIn limit words cut too_large = GivesTooMuch limit words
EndsIn limit words cut partial = IsPartial limit words cut
