-- Texts that are written about a message that was read.
use Rattle.std.proofs.Common.{Err, List, Result, [], ℕ, ◌∷◌, ◌≡◌, rules}
use Rattle.cap_text.specs.Writing.{Writes}
use Rattle.cap_text.specs.declared.fault.Cause.TheVariants.{Output}
use Rattle.cap_run.specs.RunNames.{OutFault, Cause, StepStops, WritesOneOf}
use Rattle.cap_run.specs.RunNames.{ReadsStream, Reports, Counted}
use Rattle.cap_run.specs.Running.{counted_after}
use Rattle.cap_words.specs.declared.byte_io.ByteOut as output
use Rattle.cap_words.specs.declared.sources.WordSource as source

module _ {O : Type 0} (g : output.Ghosts O) where
  -- one of some texts is one of others
  pub writes_as : (texts others : List ℕ → Counted → Type 0) (allocates needs : Type 0) (old new : O)
      (r : Result Counted Cause)
      → ((text : List ℕ) (counted : Counted) → texts text counted → others text counted) → (allocates → needs)
      → WritesOneOf g texts allocates old new r → WritesOneOf g others needs old new r
  writes_as texts others allocates needs old new x7 h k w = search rules

  -- a text was written, or the output failed in it
  pub writes_text : (text : List ℕ) (counted : Counted) (texts : List ℕ → Counted → Type 0) (allocates : Type 0) (old new : O)
      (written : Result (Unit {0}) OutFault) (r : Result Counted Cause) → texts text counted → Writes g old new written text
      → r ≡ counted_after written counted → WritesOneOf g texts allocates old new r
  writes_text text counted texts allocates old new x7 r h w e = search rules

module _ {S O : Type 0} (gs : source.Ghosts S) (go : output.Ghosts O) (reports : Reports)
    (allocates : List (List ℕ) → Type 0) (limit n : ℕ) where
  -- a message was read, and its text wasn't written
  pub step_stops : (m : List (List ℕ)) (old new : S) (before after : O) (cause : Cause)
      → ReadsStream gs limit old new (m ∷ []) → WritesOneOf go (reports n m) (allocates m) before after (Err cause)
      → StepStops gs go reports allocates limit n old new before after cause
  step_stops m old new before after (Output fault) r w =
      (record { message = m; text = w.0; counted = w.1 }, w.2, r, w.3)
  step_stops m old new before after cause r w = search rules
