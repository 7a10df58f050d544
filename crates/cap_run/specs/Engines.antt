-- The whole contract of each engine (profile). It says what the result means for the source and the
-- output, and what the result is if the words are known. gs, go and gk have the members of their
-- types.
use Rattle.std.specs.List.{AllByRecursion}
use Rattle.std.specs.Prelude.{Bool, Err, IfErr, IfOk, IsErrOf, List, Ok, Result, Some, [], drop, false, length, sum, take}
use Rattle.std.specs.Prelude.{true, ℕ, ◌-◌, ◌<◌, ◌^◌, ◌∷◌, ◌≡◌, ◌≤◌}
use Rattle.cap_spec.specs.Frames.{Stream, sizes_of}
use Rattle.cap_words.specs.declared.sources.SourceFault.TheVariants.{Truncated}
use Rattle.cap_frame.specs.declared.fault.FrameFault.TheVariants.{Memory}
use Rattle.cap_text.specs.declared.fault.Cause.TheVariants.{Frame}
use Rattle.cap_text.specs.declared.fault.CopyFault.{CopyFault}
use Rattle.cap_text.specs.declared.fault.CopyFault.TheVariants.{Source, TooManyWords}
use Rattle.cap_text.specs.declared.fault.RunFault.{RunFault}
use Rattle.cap_run.specs.Running.{Appended, RunStops, Settled}
use Rattle.cap_run.specs.Streams.{ReadsStream, ReadsToEnd}
use Rattle.cap_run.specs.Reporting.{PlacedReports, Reports, ReportsAt, ReportsSegments, Reported, AllocatesNone, messages_of, outcome_of, texts_of, framed_words}
use Rattle.cap_run.specs.Transcoding.{Finishes, TranscodeSettled, Transcoded}
use Rattle.cap_run.specs.declared.settings.Outcome.{Outcome}
use Rattle.cap_words.specs.declared.byte_io.ByteOut as output
use Rattle.cap_words.specs.declared.sinks.WordSink as sink
use Rattle.cap_words.specs.declared.sources.WordSource as source

-- the most words that the program packs or unpacks
abbrev pub most_transcoded : ℕ
most_transcoded = 2 ^ 40

-- the most words that are put to a packer in one call
abbrev pub most_packed_at_once : ℕ
most_packed_at_once = 64

-- the most words that are put to a sink in one call as words are unpacked
abbrev pub most_unpacked_at_once : ℕ
most_unpacked_at_once = 1024

-- the most messages of a stream that the program reads
abbrev pub most_messages : ℕ
most_messages = 2 ^ 32 - 1

module _ {S O : Type 0} (gs : source.Ghosts S) (go : output.Ghosts O) (counts : Bool)
    (reports : PlacedReports) (limit most : ℕ) (old new : S) (before after : O) where
  -- All words of the source are frames of these messages, and the text of each was written.
  abbrev pub ReachesEnd : Result Outcome RunFault → Type 0
  ReachesEnd answer = IfOk answer (λ outcome. (ts : List Reported)
      × ReadsToEnd gs limit old new (messages_of ts) × ReportsAt counts reports 0 0 ts
      × Appended go before after (texts_of ts)
      × (length ts ≤ most) × (outcome ≡ outcome_of ts))

  -- The source was `mid` after the messages before the error had been read.
  abbrev pub StopsEarly : (List (List ℕ) → Type 0) → Result Outcome RunFault → Type 0
  StopsEarly allocates answer = IfErr answer (λ fault. (ts : List Reported) × (mid : S)
      × (fault.message ≡ length ts) × (length ts ≤ most)
      × ReadsStream gs limit old mid (messages_of ts) × ReportsAt counts reports 0 0 ts
      × RunStops gs go (reports (framed_words counts ts)) allocates limit most ts mid new before after fault.cause)

module _ {S O : Type 0} (gs : source.Ghosts S) (go : output.Ghosts O) where
  -- What an engine does over at most `most` messages, each of at most `limit` words: it writes a
  -- text of each. The text may depend on the words before the message, if they are counted. A message in
  -- `allocates` may need an allocation after it was read.
  pub record ReportsAll (counts : Bool) (reports : PlacedReports) (allocates : List (List ℕ) → Type 0)
      (limit most : ℕ) (old new : S) (before after : O) (answer : Result Outcome RunFault) : Type 0 where
    pub ok : ReachesEnd gs go counts reports limit most old new before after answer
    pub err : StopsEarly gs go counts reports limit most old new before after allocates answer
    -- And the other way round: a stream of at most `most` messages, each within the limit, is read
    -- to its end.
    pub whole : (own : List ℕ) (ms : List (List (List ℕ))) → gs.words old ≡ Some own
        → gs.is_cut old ≡ false → Stream own ms
        → AllByRecursion (λ m. sum (sizes_of m) ≤ limit) ms → length ms ≤ most →
        Settled answer ((ts : List Reported) × (messages_of ts ≡ ms) × ReportsAt counts reports 0 0 ts
        × Appended go before after (texts_of ts)
        × (answer ≡ Ok (outcome_of ts)))

  -- where a text doesn't depend on the words before its message
  abbrev pub ReportsStream : Reports → (List (List ℕ) → Type 0) → ℕ → ℕ → S → S → O → O
      → Result Outcome RunFault → Type 0
  ReportsStream reports = ReportsAll false (λ before. reports)

  -- where it does
  abbrev pub ReportsPlaced : PlacedReports → (List (List ℕ) → Type 0) → ℕ → ℕ → S → S → O → O
      → Result Outcome RunFault → Type 0
  ReportsPlaced reports = ReportsAll true reports

  -- What the engine `run_segments` does, which writes the segments of each message. Reading
  -- allocates nothing.
  pub record ShowsStream (limit most : ℕ) (old new : S) (before after : O)
      (answer : Result Outcome RunFault) : Type 0 where
    pub reported : ReportsStream ReportsSegments AllocatesNone limit most old new before after answer
    pub no_memory : (n : ℕ) → IsErrOf answer (record { message = n; cause = Frame Memory }) → ⊥

module _ {S K : Type 0} (gs : source.Ghosts S) (gk : sink.Ghosts K) where
  -- What an engine does that copies at most `most` words, in pieces of at most `at_once` words.
  pub record TranscodesWords (at_once most : ℕ) (old new : S) (before after : K)
      (answer : Result ℕ CopyFault) : Type 0 where
    pub copied : Transcoded gs gk at_once most old new before after answer
    -- And the other way round, if the words are known. There are at most `most`, and the input
    -- isn't cut.
    pub whole : (own : List ℕ) → gs.words old ≡ Some own → gs.is_cut old ≡ false
        → length own ≤ most →
        TranscodeSettled answer ((answer ≡ Ok (length own)) × Finishes gk before after own)
    -- The input ends inside a word after them.
    pub cut_short : (own : List ℕ) → gs.words old ≡ Some own → gs.is_cut old ≡ true
        → length own ≤ most →
        TranscodeSettled answer ((byte : ℕ) × (answer ≡ Err (Source (Truncated byte)))
        × (drop (length own) (gs.places old) ≡ byte ∷ [])
        × Finishes gk before after own)
    -- There are too many.
    pub many : (own : List ℕ) → gs.words old ≡ Some own → most < length own →
        TranscodeSettled answer ((answer ≡ Err TooManyWords) × Finishes gk before after (take most own))
