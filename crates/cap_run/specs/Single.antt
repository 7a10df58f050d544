-- What reading an input that has to be exactly one message says of its source (profile). gs has the
-- members of the source's type.
use Rattle.std.specs.Prelude.{Bool, Err, IfErr, List, None, OnOk, Ok, Option, Result, Some, [], false, length, true}
use Rattle.std.specs.Prelude.{ℕ, ◌<◌, ◌∷◌, ◌≡◌, ◌⊎◌, ⊤}
use Rattle.cap_spec.specs.Endings.{BeginsMessage}
use Rattle.cap_spec.specs.Frames.{frame_text}
use Rattle.cap_spec.specs.Plain.{plain_text}
use Rattle.cap_words.specs.Vectors.{vec_written}
use Rattle.cap_words.specs.declared.vec_out.VecOut.{VecOut}
use Rattle.cap_frame.specs.ReadingFaults.{Faults}
use Rattle.cap_frame.specs.Taking.{Breaks, EndsAfter, Refuses, Takes}
use Rattle.cap_frame.specs.declared.fault.FrameFault.TheVariants.{Device, Spent}
use Rattle.cap_text.specs.declared.fault.Cause.{Cause}
use Rattle.cap_text.specs.declared.fault.Cause.TheVariants.{Canon, Frame, NotStrict, Output, Refused, TooManyMessages}
use Rattle.cap_text.specs.declared.fault.Cause.TheVariants.{Memory as no_memory}
use Rattle.cap_text.specs.declared.fault.ExplainedFault.{ExplainedFault}
use Rattle.cap_text.specs.declared.fault.SingleFault.{SingleFault}
use Rattle.cap_text.specs.declared.fault.SingleFault.TheVariants.{NoMessage, Run, Trailing}
use Rattle.cap_run.specs.Breaking.{BreaksBy}
use Rattle.cap_run.specs.Running.{SettledAt}
use Rattle.cap_run.specs.Streams.{EndsStream, ReadsStream}
use Rattle.cap_words.specs.declared.sources.WordSource as source

-- the bytes of a message's frame with zero padding
abbrev pub padded_frame : List (List ℕ) → List ℕ
padded_frame m = plain_text (frame_text m)

-- P, unless reading failed, an allocation failed, or an earlier error had closed the input
abbrev pub SettledFirst : Result (Option VecOut) ExplainedFault → Type 0 → Type 0
SettledFirst (Ok frame) P = P
SettledFirst (Err e) P = SettledAt e.fault.cause P

-- the same of what comes after the message
abbrev pub SettledRest : Result (Unit {0}) SingleFault → Type 0 → Type 0
SettledRest (Ok ended) P = P
SettledRest (Err NoMessage) P = P
SettledRest (Err (Trailing byte)) P = P
SettledRest (Err (Run fault)) P = ⊤

module _ {S : Type 0} (gs : source.Ghosts S) where
  -- why there is no frame of the first message
  abbrev pub LacksFirst : ℕ → S → S → Cause → Type 0
  LacksFirst limit old new TooManyMessages = ⊥
  LacksFirst limit old new (Frame fault) = Faults gs limit old new fault
  LacksFirst limit old new (Output fault) = ⊥
  LacksFirst limit old new (Refused refusal) = ⊥
  LacksFirst limit old new (NotStrict fault) = ⊥
  LacksFirst limit old new (Canon fault) = ⊥
  LacksFirst limit old new no_memory = (m : List (List ℕ)) × ReadsStream gs limit old new (m ∷ [])

  -- The first message of an input was read, and these are the bytes of its frame. Or there is none,
  -- or a fault came.
  pub record ReadsSingle (packed : Bool) (limit : ℕ) (old new : S)
      (result : Result (Option VecOut) ExplainedFault) : Type 0 where
    pub message : (frame : VecOut) → result ≡ Ok (Some frame) → (m : List (List ℕ))
        × ReadsStream gs limit old new (m ∷ []) × (vec_written frame ≡ Some (padded_frame m))
    pub none : result ≡ Ok None → EndsStream gs old new
    pub err : IfErr result (λ e. (e.fault.message ≡ 0) × LacksFirst limit old new e.fault.cause)
    pub broken : IfErr result (λ e. BreaksBy gs packed limit old e.fault.cause e.at)
    -- And the other way round, if the words are known. They begin with a message within the limit.
    pub whole : (ws : List ℕ) → gs.words old ≡ Some ws → (b : BeginsMessage limit ws) →
        SettledFirst result ((frame : VecOut) × (result ≡ Ok (Some frame))
        × (vec_written frame ≡ Some (padded_frame b.message)) × (gs.words new ≡ Some b.rest))
    -- There are none.
    pub empty : gs.words old ≡ Some [] → gs.is_cut old ≡ false →
        SettledFirst result (result ≡ Ok None)

  -- The input goes on here: by one word, which was taken, or by a part of one, with which it ends.
  abbrev pub GoesOn : S → S → Type 0
  GoesOn old new = ((x : ℕ) × Takes gs old new (x ∷ []))
      ⊎ ((gs.failed new ≡ true) × EndsAfter gs (λ ws. ws ≡ []) old new (gs.place new))

  -- why an input doesn't end where it has to
  abbrev pub RestStops : S → S → SingleFault → Type 0
  RestStops old new NoMessage = ⊥
  RestStops old new (Trailing byte) = (byte ≡ gs.place old) × GoesOn old new
  RestStops old new (Run fault) =
      ((fault ≡ record { message = 1; cause = Frame Device }) × Breaks gs old new)
      ⊎ ((fault ≡ record { message = 1; cause = Frame Spent }) × Refuses gs old new)

  -- The input ends here, or goes on at this place, or reading failed.
  pub record EndsSingle (old new : S) (result : Result (Unit {0}) SingleFault) : Type 0 where
    pub ok : OnOk result (EndsStream gs old new)
    pub err : IfErr result (RestStops old new)
    -- And the other way round, if the words are known.
    pub ends : gs.words old ≡ Some [] → gs.is_cut old ≡ false → SettledRest result (result ≡ Ok tt)
    pub goes_on : (ws : List ℕ) → gs.words old ≡ Some ws → (0 < length ws) ⊎ (gs.is_cut old ≡ true)
        → SettledRest result (result ≡ Err (Trailing (gs.place old)))
