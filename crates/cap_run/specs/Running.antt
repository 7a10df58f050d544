-- How an engine ends, by what it did to its source and its output (profile). gs and go have the
-- members of their types.
use Rattle.std.specs.Io.KnownBytes.{Appends}
use Rattle.std.specs.Prelude.{Bool, Err, List, Ok, Result, [], length, true, ℕ, ◌++◌, ◌<◌, ◌^◌, ◌∷◌, ◌≡◌, ◌≤◌}
use Rattle.cap_spec.specs.declared.CanonFault.TheVariants.{HasCapability, Memory as canon_memory}
use Rattle.cap_words.specs.ByteIo.{DeviceFails, Failures, AllocationFails, WasBroken}
use Rattle.cap_words.specs.declared.byte_io.OutFault.{OutFault}
use Rattle.cap_words.specs.declared.byte_io.OutFault.TheVariants.{Device, Memory, Spent}
use Rattle.cap_frame.specs.ReadingFaults.{Answered, Faults}
use Rattle.cap_text.specs.Writing.{Stopped, Wrote}
use Rattle.cap_text.specs.declared.fault.Cause.{Cause}
use Rattle.cap_text.specs.declared.fault.Cause.TheVariants.{Canon, Frame, NotStrict, Output, Refused, TooManyMessages}
use Rattle.cap_text.specs.declared.fault.Cause.TheVariants.{Memory as no_marks}
use Rattle.cap_text.specs.declared.fault.RunFault.{RunFault}
use Rattle.cap_run.specs.Streams.{ReadsStream}
use Rattle.cap_run.specs.Reporting.{Reports, Reported, texts_of, words_if}
use Rattle.cap_run.specs.declared.engines.stream.Counted.{Counted}
use Rattle.cap_run.specs.declared.settings.Outcome.{Outcome}
use Rattle.cap_words.specs.declared.byte_io.ByteOut as output
use Rattle.cap_words.specs.declared.sources.WordSource as source

-- what an engine returns after a text was written, or after the output failed in it
abbrev pub counted_after : Result (Unit {0}) OutFault → Counted → Result Counted Cause
counted_after (Ok written) counted = Ok counted
counted_after (Err fault) counted = Err (Output fault)

-- P, unless reading failed, the output failed, an allocation failed, or the input was closed by an
-- earlier error
abbrev pub SettledAt : Cause → Type 0 → Type 0
SettledAt TooManyMessages P = P
SettledAt (Frame fault) P = Answered {A = Outcome} (Err fault) P
SettledAt (Output fault) P = Unit {0}
SettledAt (Refused refusal) P = P
SettledAt (NotStrict fault) P = P
SettledAt (Canon (HasCapability s w)) P = P
SettledAt (Canon canon_memory) P = Unit {0}
SettledAt no_marks P = Unit {0}

-- P, unless the result is such an error
abbrev pub Settled : Result Outcome RunFault → Type 0 → Type 0
Settled (Ok outcome) P = P
Settled (Err fault) P = SettledAt fault.cause P

-- what an error of an output says of whether it is closed and how often it failed
abbrev pub OutFails : OutFault → Bool → Bool → Failures → Failures → Type 0
OutFails Device was is before after = DeviceFails was before after × (is ≡ true)
OutFails Memory was is before after = AllocationFails was before after
OutFails Spent was is before after = WasBroken was is before after

module _ {O : Type 0} (g : output.Ghosts O) where
  -- The text was written without an error.
  pub record Appended (old new : O) (text : List ℕ) : Type 0 where
    pub appended : Appends (g.written old) (g.written new) text
    pub broken : g.broken new ≡ g.broken old
    pub failures : g.failures new ≡ g.failures old

  -- The output returned this error after these texts and a prefix of the next.
  pub record StopsIn (old new : O) (fault : OutFault) (done text : List ℕ) : Type 0 where
    pub fails : OutFails fault (g.broken old) (g.broken new) (g.failures old) (g.failures new)
    pub part : List ℕ
    pub rest : List ℕ
    pub whole : text ≡ part ++ rest
    pub appended : Appends (g.written old) (g.written new) (done ++ part)

  -- One of these texts was written, with what is counted then, or the output failed after a prefix
  -- of one. Or an allocation failed that is needed, and nothing was written.
  abbrev pub WritesOneOf : (List ℕ → Counted → Type 0) → Type 0 → O → O → Result Counted Cause
      → Type 0
  WritesOneOf texts allocates old new (Ok counted) = (text : List ℕ) × texts text counted
      × Wrote g old new text
  WritesOneOf texts allocates old new (Err TooManyMessages) = ⊥
  WritesOneOf texts allocates old new (Err (Frame fault)) = ⊥
  WritesOneOf texts allocates old new (Err (Output fault)) =
      (text : List ℕ) × (counted : Counted) × texts text counted × Stopped g old new fault text
  WritesOneOf texts allocates old new (Err (Refused refusal)) = ⊥
  WritesOneOf texts allocates old new (Err (NotStrict fault)) = ⊥
  WritesOneOf texts allocates old new (Err (Canon fault)) = ⊥
  WritesOneOf texts allocates old new (Err no_marks) = allocates × (new ≡ old)

module _ {S : Type 0} (g : source.Ghosts S) where
  -- why a stream didn't end where it had to
  abbrev pub EndStops : ℕ → S → S → Cause → Type 0
  EndStops limit old new TooManyMessages = (m : List (List ℕ))
      × ReadsStream g limit old new (m ∷ [])
  EndStops limit old new (Frame fault) = Faults g limit old new fault
  EndStops limit old new (Output fault) = ⊥
  EndStops limit old new (Refused refusal) = ⊥
  EndStops limit old new (NotStrict fault) = ⊥
  EndStops limit old new (Canon fault) = ⊥
  EndStops limit old new no_marks = ⊥

module _ {S O : Type 0} (gs : source.Ghosts S) (go : output.Ghosts O) where
  -- a message of this number of words was read, if they are counted, and its text as message n was
  -- written
  abbrev pub StepReports : Bool → Reports → ℕ → ℕ → S → S → O → O → Counted → ℕ → Type 0
  StepReports counts reports limit n old new before after counted words = (t : Reported) × (t.counted ≡ counted)
      × reports n t.message t.text t.counted × ReadsStream gs limit old new (t.message ∷ [])
      × Wrote go before after t.text × (words ≡ words_if counts t.message) × (words ≤ 2 ^ 29)

  -- why an engine ended at message n, which may need an allocation after it was read
  abbrev pub StepStops : Reports → (List (List ℕ) → Type 0) → ℕ → ℕ → S → S → O → O → Cause → Type 0
  StepStops reports allocates limit n old new before after TooManyMessages = ⊥
  StepStops reports allocates limit n old new before after (Frame fault) = Faults gs limit old new fault
      × (after ≡ before)
  StepStops reports allocates limit n old new before after (Output fault) =
      (t : Reported) × reports n t.message t.text t.counted × ReadsStream gs limit old new
      (t.message ∷ []) × Stopped go before after fault t.text
  StepStops reports allocates limit n old new before after (Refused refusal) = ⊥
  StepStops reports allocates limit n old new before after (NotStrict fault) = ⊥
  StepStops reports allocates limit n old new before after (Canon fault) = ⊥
  StepStops reports allocates limit n old new before after no_marks = (m : List (List ℕ))
      × ReadsStream gs limit old new (m ∷ []) × allocates m × (after ≡ before)

  -- why an engine ended after these messages, when the source was `mid`
  abbrev pub RunStops : Reports → (List (List ℕ) → Type 0) → ℕ → ℕ → List Reported → S → S → O → O → Cause
      → Type 0
  RunStops reports allocates limit most ts mid new before after TooManyMessages =
      (length ts ≡ most) × Appended go before after (texts_of ts)
      × ((m : List (List ℕ)) × ReadsStream gs limit mid new (m ∷ []))
  RunStops reports allocates limit most ts mid new before after (Frame fault) = Appended go before after
      (texts_of ts) × Faults gs limit mid new fault
  RunStops reports allocates limit most ts mid new before after (Output fault) =
      (t : Reported) × (length ts < most) × reports (length ts) t.message t.text t.counted
      × ReadsStream gs limit mid new (t.message ∷ [])
      × StopsIn go before after fault (texts_of ts) t.text
  RunStops reports allocates limit most ts mid new before after (Refused refusal) = ⊥
  RunStops reports allocates limit most ts mid new before after (NotStrict fault) = ⊥
  RunStops reports allocates limit most ts mid new before after (Canon fault) = ⊥
  RunStops reports allocates limit most ts mid new before after no_marks =
      (length ts < most) × Appended go before after (texts_of ts)
      × ((m : List (List ℕ)) × ReadsStream gs limit mid new (m ∷ []) × allocates m)
