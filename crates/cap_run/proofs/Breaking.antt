-- What is known of a message at which a stream breaks off.
use Rattle.cap_spec.proofs.ProofNames.{Bool, Err, IfSome, List, OnSome, Option, false, true, ℕ, ◌≡◌, ◌⊎◌, rules}
use Rattle.cap_frame.specs.FrameNames.{Faults}
use Rattle.cap_frame.specs.Taking.{IsOver}
use Rattle.cap_frame.specs.declared.fault.FrameFault.{FrameFault}
use Rattle.cap_frame.specs.declared.fault.FrameFault.TheVariants.{Truncated}
use Rattle.cap_text.specs.declared.fault.StreamBreak.{StreamBreak}
use Rattle.cap_run.specs.Breaking.{BreaksBy, EndsCut}
use Rattle.cap_run.specs.RunNames.{Cause, WritesOneOf, Counted}
use Rattle.cap_words.specs.declared.byte_io.ByteOut as output
use Rattle.cap_words.specs.declared.sources.WordSource as source

module _ {S : Type 0} (g : source.Ghosts S) where
  -- a source that ended inside a message gives no more words
  pub over_after : (limit : ℕ) (old new : S) (fault : FrameFault) → Faults g limit old new fault → (byte : ℕ) → fault ≡ Truncated byte
      → (g.ended new ≡ true) ⊎ (g.failed new ≡ true)
  over_after limit old new x4 f byte e = search rules

  cut_of : (o : Option (List ℕ)) (cut reported : Bool) (new : S) → OnSome o (IsOver g cut new) → (g.ended new ≡ true → reported ≡ false)
      → (g.failed new ≡ true → reported ≡ true) → IfSome o (λ ws. reported ≡ cut)
  cut_of x1 x2 reported new h e f = search rules

  -- its next answer says whether it ended inside a word
  pub cut_after : (limit : ℕ) (old new : S) (fault : FrameFault) (reported : Bool) → Faults g limit old new fault
      → ((byte : ℕ) → fault ≡ Truncated byte → g.ended new ≡ true → reported ≡ false)
      → ((byte : ℕ) → fault ≡ Truncated byte → g.failed new ≡ true → reported ≡ true)
      → (((byte : ℕ) → fault ≡ Truncated byte → ⊥) → reported ≡ false) → EndsCut fault (g.words old) (g.is_cut old) reported
  cut_after limit old new x4 reported f ended failed other = search (rules, cut_of)

module _ {S O : Type 0} (gs : source.Ghosts S) (go : output.Ghosts O) where
  -- a message that was read has none of it
  pub read_breaks : (texts : List ℕ → Counted → Type 0) (allocates : Type 0) (before after : O) (packed : Bool) (limit : ℕ) (old : S)
      (cause : Cause) (at : StreamBreak) → WritesOneOf go texts allocates before after (Err cause) → BreaksBy gs packed limit old cause at
  read_breaks texts allocates before after packed limit old x8 at w = search rules
