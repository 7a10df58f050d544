-- The frame at the start of bytes, within the limits of a call, or why there is none
-- (profile; standard: Serialization Over a Stream).
use Rattle.std.specs.Prelude.{Err, List, [], length, ℕ, ◌<◌, ◌≡◌, ◌≤◌}
use Rattle.cap_spec.specs.GreatestLimits.{most_depth, most_words}
use Rattle.cap_frame.specs.FrameNames.{ReportsFront, IsFront}
use Rattle.cap_calls.specs.CallFlags.{HasKnownFlags}
use Rattle.cap_calls.specs.declared.front.NoFrame.{NoFrame}
use Rattle.cap_calls.specs.declared.front.NoFrame.TheVariants.{BadLimits, Fault, NoMessage}
use Rattle.cap_calls.specs.declared.limits.CallLimits.{CallLimits}

-- no limit is above its maximum, no flag is unknown, the input is a message or starts with one, and the reserved fields are 0
pub record AreLimits (l : CallLimits) : Type 0 where
  pub small : l.message_words ≤ most_words
  pub few : l.charge ≤ most_words
  pub shallow : l.depth ≤ most_depth
  pub flags : HasKnownFlags l

-- why the bytes begin with no frame within the limits
abbrev pub HasNoFrame : CallLimits → List ℕ → NoFrame → Type 0
HasNoFrame l bytes BadLimits = ¬ AreLimits l
HasNoFrame l bytes NoMessage = AreLimits l × (bytes ≡ [])
HasNoFrame l bytes (Fault fault) = AreLimits l × ReportsFront l.message_words bytes (Err fault)

-- The first `frame` bytes frame a message of this number of segments, within the limits.
pub record HasFrame (l : CallLimits) (bytes : List ℕ) (frame segments : ℕ) (m : List (List ℕ)) : Type 0 where
  pub are_limits : AreLimits l
  pub front : IsFront l.message_words bytes m frame
  pub count : segments ≡ length m

-- The bytes begin with a frame of this message, within the limits of some call.
abbrev pub BeginsWith : List ℕ → List (List ℕ) → Type 0
BeginsWith bytes m = (l : CallLimits) × (frame segments : ℕ) × HasFrame l bytes frame segments m

-- The bytes frame a message within the limits, and more bytes follow it.
abbrev pub HasTrailing : CallLimits → List ℕ → Type 0
HasTrailing l bytes = (m : List (List ℕ)) × (frame segments : ℕ) × HasFrame l bytes frame segments m
    × (frame < length bytes)
