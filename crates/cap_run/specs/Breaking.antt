-- What is known of a message at which a stream breaks off (profile). gs and go have the members of
-- their types.
use Rattle.std.specs.Prelude.{Bool, Err, IfErr, IfSome, List, Ok, Option, Result, false, length, ℕ, ⊤, ◌≡◌}
use Rattle.cap_frame.specs.TablesLeft.{LeavesTable}
use Rattle.cap_frame.specs.declared.fault.FrameFault.{FrameFault}
use Rattle.cap_frame.specs.declared.fault.FrameFault.TheVariants.{Device, Memory, Spent, TooLarge, TooManySegments}
use Rattle.cap_frame.specs.declared.fault.FrameFault.TheVariants.{Truncated}
use Rattle.cap_text.specs.declared.fault.Cause.{Cause}
use Rattle.cap_text.specs.declared.fault.Cause.TheVariants.{Canon, Frame, NotStrict, Output, Refused, TooManyMessages}
use Rattle.cap_text.specs.declared.fault.Cause.TheVariants.{Memory as no_marks}
use Rattle.cap_text.specs.declared.fault.ExplainedFault.{ExplainedFault}
use Rattle.cap_text.specs.declared.fault.RunFault.{RunFault}
use Rattle.cap_text.specs.declared.fault.StreamBreak.{StreamBreak}
use Rattle.cap_run.specs.Engines.{ReportsPlaced}
use Rattle.cap_run.specs.Reporting.{PlacedReports}
use Rattle.cap_run.specs.Streams.{ReadsStream}
use Rattle.cap_run.specs.declared.settings.Outcome.{Outcome}
use Rattle.cap_words.specs.declared.byte_io.ByteOut as output
use Rattle.cap_words.specs.declared.sources.WordSource as source

-- whether the input ends inside a word, if it ends inside a message and its words are known
abbrev pub EndsCut : FrameFault → Option (List ℕ) → Bool → Bool → Type 0
EndsCut (TooManySegments count) words cut reported = reported ≡ false
EndsCut (TooLarge n) words cut reported = reported ≡ false
EndsCut (Truncated byte) words cut reported = IfSome words (λ ws. reported ≡ cut)
EndsCut Device words cut reported = reported ≡ false
EndsCut Memory words cut reported = reported ≡ false
EndsCut Spent words cut reported = reported ≡ false

-- an answer without what is known of the message at which the stream breaks off
abbrev pub run_answer : Result Outcome ExplainedFault → Result Outcome RunFault
run_answer (Ok outcome) = Ok outcome
run_answer (Err fault) = Err fault.fault

module _ {S : Type 0} (gs : source.Ghosts S) where
  -- The source was `old` before the message that can't be read. Its input is packed or not.
  pub record BreaksAt (packed : Bool) (limit : ℕ) (old : S) (fault : FrameFault)
      (at : StreamBreak) : Type 0 where
    pub start : at.start ≡ gs.place old
    pub packed_is : at.packed ≡ packed
    pub limit_is : at.limit ≡ limit
    pub table : LeavesTable fault (gs.words old) at.table
    pub cut : EndsCut fault (gs.words old) (gs.is_cut old) at.is_cut

  -- the same, if the cause is that a message can't be read
  abbrev pub BreaksBy : Bool → ℕ → S → Cause → StreamBreak → Type 0
  BreaksBy packed limit old TooManyMessages at = ⊤
  BreaksBy packed limit old (Frame fault) at = BreaksAt packed limit old fault at
  BreaksBy packed limit old (Output fault) at = ⊤
  BreaksBy packed limit old (Refused refusal) at = ⊤
  BreaksBy packed limit old (NotStrict fault) at = ⊤
  BreaksBy packed limit old (Canon fault) at = ⊤
  BreaksBy packed limit old no_marks at = ⊤

  -- The source was `mid` after the messages before the one at which the stream breaks off.
  abbrev pub BreaksAfter : Bool → ℕ → S → RunFault → StreamBreak → Type 0
  BreaksAfter packed limit old fault at = (ms : List (List (List ℕ))) × (mid : S)
      × (length ms ≡ fault.message) × ReadsStream gs limit old mid ms
      × BreaksBy packed limit mid fault.cause at

  -- the same of an answer
  abbrev pub BreaksOff : Bool → ℕ → S → Result Outcome ExplainedFault → Type 0
  BreaksOff packed limit old answer = IfErr answer (λ e. BreaksAfter packed limit old e.fault e.at)

module _ {S O : Type 0} (gs : source.Ghosts S) (go : output.Ghosts O) where
  -- What an engine does that explains: it writes a text of each message, and says what is known of
  -- the message at which the stream breaks off.
  pub record ExplainsStream (reports : PlacedReports) (allocates : List (List ℕ) → Type 0) (packed : Bool)
      (limit most : ℕ) (old new : S) (before after : O)
      (answer : Result Outcome ExplainedFault) : Type 0 where
    pub reported : ReportsPlaced gs go reports allocates limit most old new before after (run_answer answer)
    pub broken : BreaksOff gs packed limit old answer
