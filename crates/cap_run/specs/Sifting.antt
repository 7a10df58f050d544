-- What the steps of the engine `run_filter` do (profile). gs, go and ge have the members of the
-- types of the source, of the output, and of the log.
use Rattle.std.specs.Prelude.{Bool, Err, IsTrue, List, None, Ok, Option, Result, Some, [], codes, ℕ, ◌++◌, ◌∷◌, ◌≡◌}
use Rattle.std.specs.Prelude.{◌⊎◌}
use Rattle.cap_spec.specs.Texts.{Verdict, refused, strict_verdict, vet_text}
use Rattle.cap_frame.specs.ReadingFaults.{Faults}
use Rattle.cap_text.specs.Writing.{Stopped}
use Rattle.cap_text.specs.declared.fault.Cause.{Cause}
use Rattle.cap_text.specs.declared.fault.Cause.TheVariants.{Canon, Frame, NotStrict, Output, Refused, TooManyMessages}
use Rattle.cap_text.specs.declared.fault.Cause.TheVariants.{Memory as no_marks}
use Rattle.cap_run.specs.Filtering.{Logged, Notes, PassesOn}
use Rattle.cap_run.specs.Running.{Appended}
use Rattle.cap_run.specs.Streams.{ReadsStream}
use Rattle.cap_run.specs.Reporting.{Reports}
use Rattle.cap_run.specs.declared.engines.sifting.Rejection.{Rejection}
use Rattle.cap_run.specs.declared.engines.sifting.Rejection.TheVariants.{Overlap, Unmet}
use Rattle.cap_run.specs.declared.engines.stream.Counted.{Counted}
use Rattle.cap_run.specs.declared.engines.stream.Counted.TheVariants.{Accepted, Refused as was_refused}
use Rattle.cap_words.specs.declared.byte_io.ByteOut as output
use Rattle.cap_words.specs.declared.sources.WordSource as source

-- what the line of a refused message says
abbrev pub rejection_verdict : Rejection → Verdict
rejection_verdict (Unmet refusal) = strict_verdict refusal
rejection_verdict (Overlap s w pointers) = refused (codes "Overlap") s w pointers

-- the line of message n, which is refused
abbrev pub rejection_text : ℕ → Rejection → List ℕ
rejection_text n rejection = vet_text n (rejection_verdict rejection)

-- what is found of a message: it is accepted, or refused with this line, whatever its number is; or
-- an allocation failed that it needs
abbrev pub FindsRejection : Reports → (List (List ℕ) → Type 0) → List (List ℕ)
    → Result (Option Rejection) Cause → Type 0
FindsRejection verdict allocates m (Ok None) = (n : ℕ) → (line : List ℕ) × verdict n m line Accepted
FindsRejection verdict allocates m (Ok (Some rejection)) = (n : ℕ)
    → verdict n m (rejection_text n rejection) was_refused
FindsRejection verdict allocates m (Err cause) = (cause ≡ no_marks) × allocates m

module _ {E : Type 0} (ge : output.Ghosts E) where
  -- the log goes on with this line, unless it failed before or fails now
  abbrev pub LogsMore : E → E → Bool → Bool → List ℕ → Type 0
  LogsMore old new failed fails line = (first : E) (text : List ℕ)
      → Logged ge first old text failed → Logged ge first new (text ++ line) fails

module _ {O E : Type 0} (go : output.Ghosts O) (ge : output.Ghosts E) (pack : Bool)
    (verdict : Reports) (allocates : List (List ℕ) → Type 0) (n : ℕ) (m : List (List ℕ))
    (before after : O) (old new : E) (failed fails waits stays : Bool) where
  -- nothing was written to the log
  abbrev pub KeepsLog : Type 0
  KeepsLog = (new ≡ old) × (fails ≡ failed)

  -- Message n was accepted and its frame was written, or it was refused and its line was. Or the
  -- output failed, in the frame of an accepted message or in a flush of frames that waited. Or an
  -- allocation failed. Only the frame of an accepted message waits after it.
  abbrev pub Sifts : Result Counted Cause → Type 0
  Sifts (Ok counted) = (text : List ℕ) × (line : List ℕ) × PassesOn pack verdict n m text counted
      × Notes verdict n m line counted × Appended go before after text
      × LogsMore ge old new failed fails line × (IsTrue stays → counted ≡ Accepted)
  Sifts (Err TooManyMessages) = ⊥
  Sifts (Err (Frame fault)) = ⊥
  Sifts (Err (Output fault)) = (text : List ℕ) × (counted : Counted)
      × ((counted ≡ Accepted) ⊎ IsTrue waits) × PassesOn pack verdict n m text counted
      × Stopped go before after fault text × KeepsLog
  Sifts (Err (Refused refusal)) = ⊥
  Sifts (Err (NotStrict fault)) = ⊥
  Sifts (Err (Canon fault)) = ⊥
  Sifts (Err no_marks) = allocates m × (after ≡ before) × KeepsLog

module _ {S O E : Type 0} (gs : source.Ghosts S) (go : output.Ghosts O) (ge : output.Ghosts E)
    (pack : Bool) (verdict : Reports) (allocates : List (List ℕ) → Type 0) (limit n : ℕ) (old new : S)
    (before after : O) (first last : E) (failed fails waits stays : Bool) where
  -- message n was read and sifted
  abbrev pub SiftsNext : Result Counted Cause → Type 0
  SiftsNext r = (m : List (List ℕ)) × ReadsStream gs limit old new (m ∷ [])
      × Sifts go ge pack verdict allocates n m before after first last failed fails waits stays r

  -- why the engine ended at message n
  abbrev pub SiftStops : Cause → Type 0
  SiftStops TooManyMessages = ⊥
  SiftStops (Frame fault) = Faults gs limit old new fault × (after ≡ before) × (last ≡ first)
      × (fails ≡ failed)
  SiftStops (Output fault) = SiftsNext (Err (Output fault))
  SiftStops (Refused refusal) = ⊥
  SiftStops (NotStrict fault) = ⊥
  SiftStops (Canon fault) = ⊥
  SiftStops no_marks = SiftsNext (Err no_marks)
