-- What the engine `run_canon` does, which puts canonical copies of the messages of a stream
-- (profile). gs and gk have the members of the source's and of the sink's type.
use Rattle.cap_walk.specs.Demands.{no_demands}
use Rattle.std.specs.List.{AllByRecursion}
use Rattle.std.specs.Prelude.{Err, IfErr, IfOk, List, Ok, Result, Some, [], false, flat_map, length, map, sum, ℕ, ◌++◌}
use Rattle.std.specs.Prelude.{◌<◌, ◌∷◌, ◌≡◌, ◌≤◌, ◌⊎◌}
use Rattle.cap_spec.specs.SpecNames.{HasCopy, Stream, frame_text, sizes_of, IsFirstCap}
use Rattle.cap_spec.specs.declared.CanonFault.{CanonFault}
use Rattle.cap_spec.specs.declared.CanonFault.TheVariants.{HasCapability, Memory}
use Rattle.cap_spec.specs.declared.StrictRefusal.TheVariants.{Refused as bad}
use Rattle.cap_words.specs.Sinks.{sink_fault_of}
use Rattle.cap_words.specs.declared.byte_io.OutFault.{OutFault}
use Rattle.cap_frame.specs.FrameNames.{Halts, Faults}
use Rattle.cap_vet.specs.VetNames.{IsDemandFault, words_under, IsAccepted}
use Rattle.cap_walk.specs.declared.demands.Demands.{Demands}
use Rattle.cap_walk.specs.declared.report.Report.{Report}
use Rattle.cap_text.specs.declared.fault.Cause.{Cause}
use Rattle.cap_text.specs.declared.fault.Cause.TheVariants.{Canon, Frame, NotStrict, Output, Refused, TooManyMessages}
use Rattle.cap_text.specs.declared.fault.Cause.TheVariants.{Memory as no_marks}
use Rattle.cap_text.specs.declared.fault.RunFault.{RunFault}
use Rattle.cap_run.specs.Demanding.{IsNotStrict, IsStrictUnder}
use Rattle.cap_run.specs.Running.{Settled}
use Rattle.cap_run.specs.Streams.{EndsStream, ReadsStream, ReadsToEnd}
use Rattle.cap_run.specs.Transcoding.{Finishes, Spoils}
use Rattle.cap_run.specs.declared.settings.Outcome.{Outcome}
use Rattle.cap_words.specs.declared.sinks.WordSink as sink
use Rattle.cap_words.specs.declared.sources.WordSource as source

-- a message, and the words of its canonical copy
pub record Canonised : Type 0 where
  pub message : List (List ℕ)
  pub copy : List ℕ

-- the messages
abbrev pub canonised : List Canonised → List (List (List ℕ))
canonised cs = map (λ c. c.message) cs

-- the words that frame the copies, one after the other, each as a message of one segment
abbrev pub copies_of : List Canonised → List ℕ
copies_of cs = flat_map (λ c. frame_text (c.copy ∷ [])) cs

-- The message is accepted within these limits and under these demands, and this is its canonical
-- copy.
pub record IsCanonised (demands : Demands) (words depth : ℕ) (c : Canonised) : Type 0 where
  pub report : Report
  pub is_accepted : IsAccepted c.message (words_under demands c.message words) depth report
  pub is_strict : IsStrictUnder demands c.message words depth
  pub has_copy : HasCopy c.message c.copy

-- each of them
abbrev pub AreCanonised : Demands → ℕ → ℕ → List Canonised → Type 0
AreCanonised demands words depth cs = AllByRecursion (IsCanonised demands words depth) cs

-- why no copy was made: this is the first capability in preorder, or there is none and an
-- allocation failed
abbrev pub HasNoCopy : List (List ℕ) → CanonFault → Type 0
HasNoCopy m (HasCapability s w) = IsFirstCap m s w
HasNoCopy m Memory = (s w : ℕ) → ¬ IsFirstCap m s w

module _ {S K : Type 0} (gs : source.Ghosts S) (gk : sink.Ghosts K) (demands : Demands)
    (words depth limit most : ℕ) (cs : List Canonised) where
  -- why no more copies were put: the source was `mid` after these messages, and Ok says that the
  -- stream ended
  abbrev pub CanonEnds : S → S → Result (Unit {0}) Cause → Type 0
  CanonEnds mid new (Ok ended) = EndsStream gs mid new
  CanonEnds mid new (Err TooManyMessages) = (length cs ≡ most) × (m : List (List ℕ))
      × ReadsStream gs limit mid new (m ∷ [])
  CanonEnds mid new (Err (Frame fault)) = Faults gs limit mid new fault
  CanonEnds mid new (Err (Output fault)) = ⊥
  CanonEnds mid new (Err (Refused refusal)) = (length cs < most) × (m : List (List ℕ))
      × ReadsStream gs limit mid new (m ∷ []) × IsDemandFault demands m words depth (bad refusal)
  CanonEnds mid new (Err (NotStrict fault)) = (length cs < most) × (m : List (List ℕ))
      × ReadsStream gs limit mid new (m ∷ []) × IsNotStrict demands m words depth fault
  CanonEnds mid new (Err (Canon fault)) = (length cs < most) × (m : List (List ℕ))
      × (report : Report) × ReadsStream gs limit mid new (m ∷ [])
      × IsAccepted m (words_under demands m words) depth report
      × IsStrictUnder demands m words depth × HasNoCopy m fault
  CanonEnds mid new (Err no_marks) = ⊥

  -- One more message was read, and the output returned this error while its copy was put.
  pub record StopsInCopy (mid new : S) (before after : K) (fault : OutFault) : Type 0 where
    pub next : Canonised
    pub few : length cs < most
    pub reads : ReadsStream gs limit mid new (next.message ∷ [])
    pub is_canonised : IsCanonised demands words depth next
    pub halts : Halts gk before after (copies_of cs ++ frame_text (next.copy ∷ []))
        (sink_fault_of fault)

  -- The result was known, and the output returned this error as the sink was finished.
  pub record StopsAfterCopies (mid new : S) (before after : K) (fault : OutFault) : Type 0 where
    pub end : Result (Unit {0}) Cause
    pub ends : CanonEnds mid new end
    pub spoils : Spoils gk before after (copies_of cs) fault

  -- what each cause says: unless the output failed, the copies were put and the sink was finished
  abbrev pub CanonStops : S → S → K → K → Cause → Type 0
  CanonStops mid new before after TooManyMessages = CanonEnds mid new (Err TooManyMessages)
      × Finishes gk before after (copies_of cs)
  CanonStops mid new before after (Frame fault) = CanonEnds mid new (Err (Frame fault))
      × Finishes gk before after (copies_of cs)
  CanonStops mid new before after (Output fault) = StopsInCopy mid new before after fault
      ⊎ StopsAfterCopies mid new before after fault
  CanonStops mid new before after (Refused refusal) = CanonEnds mid new (Err (Refused refusal))
      × Finishes gk before after (copies_of cs)
  CanonStops mid new before after (NotStrict fault) = CanonEnds mid new (Err (NotStrict fault))
      × Finishes gk before after (copies_of cs)
  CanonStops mid new before after (Canon fault) = CanonEnds mid new (Err (Canon fault))
      × Finishes gk before after (copies_of cs)
  CanonStops mid new before after no_marks = ⊥

module _ {S K : Type 0} (gs : source.Ghosts S) (gk : sink.Ghosts K) where
  -- What the engine does over a stream of at most `most` messages, each of at most `limit` words.
  -- The charge of a message may be at most `words`, and its depth at most `depth`. It has to meet
  -- the demands.
  pub record MakesCopiesUnder (demands : Demands) (words depth limit most : ℕ) (old new : S)
      (before after : K) (answer : Result Outcome RunFault) : Type 0 where
    -- All words of the source are frames of these messages, and exactly their copies were put.
    pub ok : IfOk answer (λ outcome. (cs : List Canonised)
        × ReadsToEnd gs limit old new (canonised cs) × AreCanonised demands words depth cs
        × Finishes gk before after (copies_of cs) × (length cs ≤ most)
        × (outcome ≡ record { messages = length cs; refused = 0; noncanonical = 0 }))
    -- The source was `mid` after the messages before the error had been read.
    pub err : IfErr answer (λ fault. (cs : List Canonised) × (mid : S) × (fault.message ≡ length cs)
        × (length cs ≤ most)
        × ReadsStream gs limit old mid (canonised cs) × AreCanonised demands words depth cs
        × CanonStops gs gk demands words depth limit most cs mid new before after fault.cause)
    -- The other way round: such a stream, if each message is within the limits and has a copy, is
    -- read to its end.
    pub whole : (own : List ℕ) (cs : List Canonised) → gs.words old ≡ Some own
        → gs.is_cut old ≡ false → Stream own (canonised cs)
        → AllByRecursion (λ m. sum (sizes_of m) ≤ limit) (canonised cs)
        → AreCanonised demands words depth cs → length cs ≤ most →
        Settled answer (Finishes gk before after (copies_of cs)
        × (answer ≡ Ok (record { messages = length cs; refused = 0; noncanonical = 0 })))

  -- the same without demands
  abbrev pub MakesCopies : ℕ → ℕ → ℕ → ℕ → S → S → K → K → Result Outcome RunFault → Type 0
  MakesCopies = MakesCopiesUnder no_demands
