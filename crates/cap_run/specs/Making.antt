-- What the steps of the engine `run_canon` do, which puts canonical copies (profile). gs and gk
-- have the members of the source's and of the sink's type.
use Rattle.std.specs.Prelude.{Bool, Err, List, Ok, Result, [], false, length, true, ℕ, ◌∷◌, ◌≡◌, ◌≤◌}
use Rattle.cap_spec.specs.Frames.{frame_text}
use Rattle.cap_spec.specs.declared.StrictRefusal.{StrictRefusal}
use Rattle.cap_spec.specs.declared.StrictRefusal.TheVariants.{ManySegments, Pointer, Refused as bad}
use Rattle.cap_words.specs.Sinks.{sink_fault_of}
use Rattle.cap_frame.specs.FrameNames.{Halts, Faults}
use Rattle.cap_vet.specs.VetNames.{IsDemandFault, words_under, IsAccepted}
use Rattle.cap_walk.specs.declared.demands.Demands.{Demands}
use Rattle.cap_walk.specs.declared.report.Report.{Report}
use Rattle.cap_text.specs.declared.fault.Cause.{Cause}
use Rattle.cap_text.specs.declared.fault.Cause.TheVariants.{Canon, Frame, NotStrict, Output, Refused, TooManyMessages}
use Rattle.cap_text.specs.declared.fault.Cause.TheVariants.{Memory as no_marks}
use Rattle.cap_run.specs.Canons.{AreCanonised, CanonEnds, CanonStops, Canonised, HasNoCopy, IsCanonised, StopsInCopy}
use Rattle.cap_run.specs.Canons.{canonised, copies_of}
use Rattle.cap_run.specs.Demanding.{IsNotStrict, IsStrictUnder}
use Rattle.cap_run.specs.Streams.{ReadsStream}
use Rattle.cap_run.specs.Transcoding.{Finishes, PutsWords}
use Rattle.cap_words.specs.declared.sinks.WordSink as sink
use Rattle.cap_words.specs.declared.sources.WordSource as source

-- whether the sink is still to be finished
abbrev pub is_unfinished : Result (Unit {0}) Cause → Bool
is_unfinished (Ok ended) = true
is_unfinished (Err TooManyMessages) = true
is_unfinished (Err (Frame fault)) = true
is_unfinished (Err (Output fault)) = false
is_unfinished (Err (Refused refusal)) = true
is_unfinished (Err (NotStrict fault)) = true
is_unfinished (Err (Canon fault)) = true
is_unfinished (Err no_marks) = true

-- why a message has no copy that is refused or isn't strict
abbrev pub refused_cause : StrictRefusal → Cause
refused_cause (bad refusal) = Refused refusal
refused_cause ManySegments = NotStrict ManySegments
refused_cause (Pointer what s w pointers) = NotStrict (Pointer what s w pointers)

module _ {K : Type 0} (gk : sink.Ghosts K) (demands : Demands) (words depth : ℕ) where
  -- why the copy of a message wasn't put
  abbrev pub CopyStops : List (List ℕ) → K → K → Cause → Type 0
  CopyStops m before after TooManyMessages = ⊥
  CopyStops m before after (Frame fault) = ⊥
  CopyStops m before after (Output fault) = (copy : List ℕ)
      × IsCanonised demands words depth (record { message = m; copy = copy })
      × Halts gk before after (frame_text (copy ∷ [])) (sink_fault_of fault)
  CopyStops m before after (Refused refusal) = IsDemandFault demands m words depth (bad refusal)
      × (after ≡ before)
  CopyStops m before after (NotStrict fault) = IsNotStrict demands m words depth fault
      × (after ≡ before)
  CopyStops m before after (Canon fault) = (report : Report)
      × IsAccepted m (words_under demands m words) depth report
      × IsStrictUnder demands m words depth × HasNoCopy m fault × (after ≡ before)
  CopyStops m before after no_marks = ⊥

module _ {S K : Type 0} (gs : source.Ghosts S) (gk : sink.Ghosts K) (demands : Demands)
    (words depth limit : ℕ) where
  -- a next message was read, and its copy was put
  abbrev pub PutsNext : S → S → K → K → Type 0
  PutsNext old new before after = (c : Canonised) × ReadsStream gs limit old new (c.message ∷ [])
      × IsCanonised demands words depth c × PutsWords gk before after (frame_text (c.copy ∷ []))

  -- why no copy of a next message was put
  abbrev pub NextStops : S → S → K → K → Cause → Type 0
  NextStops old new before after TooManyMessages = ⊥
  NextStops old new before after (Frame fault) = Faults gs limit old new fault × (after ≡ before)
  NextStops old new before after (Output fault) = (m : List (List ℕ))
      × ReadsStream gs limit old new (m ∷ [])
      × CopyStops gk demands words depth m before after (Output fault)
  NextStops old new before after (Refused refusal) = (m : List (List ℕ))
      × ReadsStream gs limit old new (m ∷ [])
      × CopyStops gk demands words depth m before after (Refused refusal)
  NextStops old new before after (NotStrict fault) = (m : List (List ℕ))
      × ReadsStream gs limit old new (m ∷ [])
      × CopyStops gk demands words depth m before after (NotStrict fault)
  NextStops old new before after (Canon fault) = (m : List (List ℕ))
      × ReadsStream gs limit old new (m ∷ [])
      × CopyStops gk demands words depth m before after (Canon fault)
  NextStops old new before after no_marks = ⊥

  -- n messages were read, and their copies were put.
  pub record CopiesSoFar (old new : S) (before after : K) (n : ℕ) : Type 0 where
    pub cs : List Canonised
    pub many : length cs ≡ n
    pub reads : ReadsStream gs limit old new (canonised cs)
    pub each : AreCanonised demands words depth cs
    pub fills : PutsWords gk before after (copies_of cs)

  -- why no more copies were put after these, before the sink is finished
  abbrev pub StopsMaking : ℕ → List Canonised → S → S → K → K → Result (Unit {0}) Cause → Type 0
  StopsMaking most cs mid new before after (Ok ended) =
      CanonEnds gs gk demands words depth limit most cs mid new (Ok ended)
      × PutsWords gk before after (copies_of cs)
  StopsMaking most cs mid new before after (Err TooManyMessages) =
      CanonEnds gs gk demands words depth limit most cs mid new (Err TooManyMessages)
      × PutsWords gk before after (copies_of cs)
  StopsMaking most cs mid new before after (Err (Frame fault)) =
      CanonEnds gs gk demands words depth limit most cs mid new (Err (Frame fault))
      × PutsWords gk before after (copies_of cs)
  StopsMaking most cs mid new before after (Err (Output fault)) =
      StopsInCopy gs gk demands words depth limit most cs mid new before after fault
  StopsMaking most cs mid new before after (Err (Refused refusal)) =
      CanonEnds gs gk demands words depth limit most cs mid new (Err (Refused refusal))
      × PutsWords gk before after (copies_of cs)
  StopsMaking most cs mid new before after (Err (NotStrict fault)) =
      CanonEnds gs gk demands words depth limit most cs mid new (Err (NotStrict fault))
      × PutsWords gk before after (copies_of cs)
  StopsMaking most cs mid new before after (Err (Canon fault)) =
      CanonEnds gs gk demands words depth limit most cs mid new (Err (Canon fault))
      × PutsWords gk before after (copies_of cs)
  StopsMaking most cs mid new before after (Err no_marks) = ⊥

  -- n messages were read, and `end` is why no more copies were put.
  pub record Making (most : ℕ) (old new : S) (before after : K) (n : ℕ)
      (end : Result (Unit {0}) Cause) : Type 0 where
    pub cs : List Canonised
    pub mid : S
    pub many : length cs ≡ n
    pub few : n ≤ most
    pub reads : ReadsStream gs limit old mid (canonised cs)
    pub each : AreCanonised demands words depth cs
    pub stops : StopsMaking most cs mid new before after end

  -- why the sink was finished, or why it couldn't be
  abbrev pub CopiesEnd : ℕ → List Canonised → S → S → K → K → Result (Unit {0}) Cause → Type 0
  CopiesEnd most cs mid new before after (Ok ended) =
      CanonEnds gs gk demands words depth limit most cs mid new (Ok ended)
      × Finishes gk before after (copies_of cs)
  CopiesEnd most cs mid new before after (Err cause) =
      CanonStops gs gk demands words depth limit most cs mid new before after cause

  -- n messages were read, and `end` is how the run ended.
  pub record Made (most : ℕ) (old new : S) (before after : K) (n : ℕ)
      (end : Result (Unit {0}) Cause) : Type 0 where
    pub cs : List Canonised
    pub mid : S
    pub many : length cs ≡ n
    pub few : n ≤ most
    pub reads : ReadsStream gs limit old mid (canonised cs)
    pub each : AreCanonised demands words depth cs
    pub ends : CopiesEnd most cs mid new before after end
