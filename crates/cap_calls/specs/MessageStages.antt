-- How a message goes on of which a buffer holds the first bytes (profile).
use Rattle.std.specs.Prelude.{List, [], drop, length, sum, take, ℕ, ⊤, ◌%◌, ◌+◌, ◌<◌, ◌≡◌, ◌≤◌}
use Rattle.cap_spec.specs.Frames.{sizes_of}
use Rattle.cap_frame.specs.Fronts.{IsFront, GivesLarge, GivesMany}
use Rattle.cap_calls.specs.PackedStreams.{WritesWords, words_to_come}
use Rattle.cap_calls.specs.UnpackingMessages.{IsOpen}
use Rattle.cap_calls.specs.declared.calls.unpack_message.Stage.{Stage}
use Rattle.cap_calls.specs.declared.calls.unpack_message.Stage.TheVariants.{Open, TooLarge, TooMany, Whole}
use Rattle.cap_calls.specs.declared.packed_stream.Given.{Given}

-- what a stage says of the bytes
abbrev pub IsStage : ℕ → List ℕ → Stage → Type 0
IsStage limit held (Open needed) = IsOpen limit held needed
IsStage limit held (Whole segments words) = (m : List (List ℕ)) × (n : ℕ) × IsFront limit held m n × (segments ≡ length m)
    × (words ≡ sum (sizes_of m))
IsStage limit held (TooMany count) = GivesMany held count
IsStage limit held (TooLarge words) = GivesLarge limit held words

-- if more words belong to the message, the buffer of `size` bytes has no space for one, or none comes next
abbrev pub CannotAppend : Stage → ℕ → Given → List ℕ → Type 0
CannotAppend (Open needed) size g rest =
    g.written + 8 ≤ size → words_to_come g.zeros g.literal rest ≡ []
CannotAppend (Whole segments words) size g rest = ⊤
CannotAppend (TooMany count) size g rest = ⊤
CannotAppend (TooLarge words) size g rest = ⊤

-- Words were appended up to this stage.
pub record ReachesStage (limit start zeros literal : ℕ) (bytes old new : List ℕ) (g : Given) (stage : Stage) : Type 0 where
  pub gives : WritesWords start zeros literal bytes old new g
  pub is_stage : IsStage limit (take g.written new) stage
  pub before : (n : ℕ) → start ≤ n → n < g.written → n % 8 ≡ 0
      → (needed : ℕ) × IsOpen limit (take n new) needed
  pub ends : CannotAppend stage (length old) g (drop g.taken bytes)

-- A call stops at this stage, for a buffer of `size` bytes that holds these bytes of a message. A message that is
-- whole is all of them.
pub record IsEnd (limit size : ℕ) (held rest : List ℕ) (g : Given) (stage : Stage) : Type 0 where
  pub long : length held ≡ g.written
  pub is_stage : IsStage limit held stage
  pub exact : (m : List (List ℕ)) (n : ℕ) → IsFront limit held m n → n ≡ length held
  pub ends : CannotAppend stage size g rest
