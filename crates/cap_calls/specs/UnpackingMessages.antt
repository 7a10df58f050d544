-- What the call that unpacks one message of a stream, a piece at a time, returns and writes
-- (standard: Packing, Serialization Over a Stream; where each call stops is the profile's).
use Rattle.std.specs.Prelude.{Err, List, [], drop, if◌then◌else◌, length, slice_index, sum, take, ℕ, ◌%◌, ◌*◌, ◌++◌, ◌+◌}
use Rattle.std.specs.Prelude.{◌<◌, ◌==◌, ◌≡◌, ◌≢◌, ◌≤◌, ◌⊎◌}
use Rattle.cap_spec.specs.Frames.{sizes_of}
use Rattle.cap_spec.specs.Plain.{plain_text}
use Rattle.cap_frame.specs.FrameNames.{ReportsFront, IsFront, GivesLarge, GivesMany}
use Rattle.cap_frame.specs.declared.fault.FrontFault.TheVariants.{Truncated}
use Rattle.cap_calls.specs.CallFrames.{AreLimits}
use Rattle.cap_calls.specs.CallReports.{none_report}
use Rattle.cap_calls.specs.PackedStreams.{GivesWords, IsRunRest, head_length, words_to_come}
use Rattle.cap_calls.specs.declared.answer.Answer.{Answer}
use Rattle.cap_calls.specs.declared.limits.CallLimits.{CallLimits}
use Rattle.cap_calls.specs.declared.report.CallReport.{CallReport}
use Rattle.cap_calls.specs.declared.unpacking.Unpacking.{Unpacking}
use Rattle.cap_calls.specs.declared.answer.Answer.TheVariants as answer

-- The bytes are none, or end inside a message within the limit. It has at least `needed` bytes: those of its
-- first word, of its table, or of its frame.
abbrev pub IsOpen : ℕ → List ℕ → ℕ → Type 0
IsOpen limit held needed = ((held ≡ []) × (needed ≡ 8)) ⊎ ReportsFront limit held (Err (Truncated needed))

-- A state that a call may leave, for a buffer with these bytes.
pub record IsState (limit : ℕ) (state : Unpacking) (out : List ℕ) : Type 0 where
  pub left : IsRunRest state.zero_words state.literal_words
  pub first : slice_index state.reserved 0 ≡ 0
  pub second : slice_index state.reserved 1 ≡ 0
  pub whole : state.written % 8 ≡ 0
  pub inside : state.written ≤ length out
  pub unfinished : (m : List (List ℕ)) (n : ℕ) → ¬ IsFront limit (take state.written out) m n

-- The words that were appended to the bytes of the message, and what the call left of the input.
pub record Appends (limit : ℕ) (bytes old : List ℕ) (state : Unpacking) (words : List ℕ) (consumed zeros literal : ℕ)
    (new : List ℕ) : Type 0 where
  pub fits : state.written + 8 * length words ≤ length old
  pub leads : GivesWords state.zero_words state.literal_words bytes words consumed zeros literal
  pub text : new ≡ take state.written old ++ (plain_text words ++ drop (state.written + 8 * length words) old)
  -- none after the end of a message
  pub before : (n : ℕ) → n < length words
      → (needed : ℕ) × IsOpen limit (take (state.written + 8 * n) new) needed
  pub left : IsRunRest zeros literal

-- how many bytes the rest of the input needs at least for its next word, or for the tag before it
abbrev pub bytes_needed : ℕ → List ℕ → ℕ
bytes_needed literal rest = if literal == 0 then head_length rest else 8

-- Why a call stops, if the buffer of `size` bytes then holds these bytes of a message, and the input
-- is left at this place with these bytes.
pub data StopsCall (limit size : ℕ) (held : List ℕ) (zeros literal : ℕ) (rest : List ℕ) (a : Answer) (required written : ℕ)
    (r : CallReport) : Type 0 where
  -- the message is whole
  whole : (m : List (List ℕ)) → IsFront limit held m (length held) → a ≡ answer.Good → required ≡ length held
      → written ≡ 0
      → r ≡ record none_report { length = length held; segments = length m; words = sum (sizes_of m) }
      → StopsCall limit size held zeros literal rest a required written r
  -- it has too many segments, or too many words
  too_many : (count : ℕ) → GivesMany held count → a ≡ answer.TooManySegments → required ≡ 0 → written ≡ length held
      → r ≡ record none_report { detail = count } → StopsCall limit size held zeros literal rest a required written r
  too_large : (words : ℕ) → GivesLarge limit held words → a ≡ answer.TooLarge → required ≡ 0 → written ≡ length held
      → r ≡ record none_report { detail = words } → StopsCall limit size held zeros literal rest a required written r
  -- a word comes next, for which the buffer is too small
  too_small : IsOpen limit held required → words_to_come zeros literal rest ≢ [] → size < length held + 8
      → a ≡ answer.BufferTooSmall → written ≡ length held → r ≡ none_report
      → StopsCall limit size held zeros literal rest a required written r
  -- no word comes next: nothing is pending
  no_message : held ≡ [] → zeros ≡ 0 → literal ≡ 0 → rest ≡ [] → a ≡ answer.NoMessage → required ≡ 0 → written ≡ 0
      → r ≡ record none_report { input_required = 1 } → StopsCall limit size held zeros literal rest a required written r
  -- or the input ends before the next word of the message
  truncated : (needed : ℕ) → IsOpen limit held needed → words_to_come zeros literal rest ≡ []
      → ¬ ((held ≡ []) × (literal ≡ 0) × (rest ≡ [])) → a ≡ answer.Truncated → required ≡ 0 → written ≡ length held
      → r ≡ record none_report { input_required = bytes_needed literal rest }
      → StopsCall limit size held zeros literal rest a required written r

-- the state with `written` bytes of the message, and this rest of a run
abbrev pub state_of : ℕ → ℕ → ℕ → Unpacking → Unpacking
state_of written zeros literal state = record state { written = written; zero_words = zeros; literal_words = literal }

-- What a call reports of a piece of the stream.
pub data ReportsUnpackMessage (l : CallLimits) (bytes old : List ℕ) (state : Unpacking) (a : Answer)
    (consumed required : ℕ) (new : List ℕ) (left : Unpacking) (r : CallReport) : Type 0 where
  -- the limits are bad, or no call leaves this state
  bad : ¬ (AreLimits l × IsState l.message_words state old) → a ≡ answer.BadLimits → consumed ≡ 0 → required ≡ 0
      → new ≡ old → left ≡ state → r ≡ none_report
      → ReportsUnpackMessage l bytes old state a consumed required new left r
  -- words are appended, and then the call stops
  unpacks : (words : List ℕ) (zeros literal written : ℕ) → AreLimits l → IsState l.message_words state old
      → Appends l.message_words bytes old state words consumed zeros literal new
      → StopsCall l.message_words (length old) (take (state.written + 8 * length words) new) zeros literal
      (drop consumed bytes) a required written r
      → left ≡ state_of written zeros literal state
      → ReportsUnpackMessage l bytes old state a consumed required new left r

-- what a call returns and writes
pub record Unpacked : Type 0 where
  pub answer : Answer
  pub consumed : ℕ
  pub required : ℕ
  pub out : List ℕ
  pub state : Unpacking
  pub report : CallReport

abbrev pub UnpacksTo : CallLimits → List ℕ → List ℕ → Unpacking → Unpacked → Type 0
UnpacksTo l bytes old state u =
    ReportsUnpackMessage l bytes old state u.answer u.consumed u.required u.out u.state u.report

-- these are what it leaves beside its answer
abbrev pub Leaves : Unpacked → ℕ → ℕ → List ℕ → Unpacking → CallReport → Type 0
Leaves u consumed required out state report = (consumed ≡ u.consumed) × (required ≡ u.required) × (out ≡ u.out)
    × (state ≡ u.state) × (report ≡ u.report)

-- It asks for more input, and the next call is over the bytes that it left and the next piece.
abbrev pub CallsAgain : CallLimits → List ℕ → List ℕ → Unpacked → Unpacked → Type 0
CallsAgain l piece more u v = ((u.answer ≡ answer.Truncated) ⊎ (u.answer ≡ answer.NoMessage))
    × UnpacksTo l (drop u.consumed piece ++ more) u.out u.state v

-- both calls together
abbrev pub together : Unpacked → Unpacked → Unpacked
together u v = record v { consumed = u.consumed + v.consumed }
