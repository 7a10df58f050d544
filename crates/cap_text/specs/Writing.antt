-- What a call that writes a text says of its output before and after (profile). g has the members
-- of the output's type.
use Rattle.std.specs.Io.KnownBytes.{Appends}
use Rattle.std.specs.Prelude.{List, MatchResult, Option, Result, true, ℕ, ◌++◌, ◌≡◌}
use Rattle.cap_words.specs.ByteIo.{DeviceFails, AllocationFails, Works}
use Rattle.cap_words.specs.declared.byte_io.OutFault.{OutFault}
use Rattle.cap_words.specs.declared.byte_io.OutFault.TheVariants.{Device, Memory, Spent}
use Rattle.cap_words.specs.declared.byte_io.ByteOut as output

-- a prefix of the text was written
pub record WritesPart (before after : Option (List ℕ)) (text : List ℕ) : Type 0 where
  pub part : List ℕ
  pub rest : List ℕ
  pub whole : text ≡ part ++ rest
  pub appended : Appends before after part

module _ {O : Type 0} (g : output.Ghosts O) where
  -- the whole text was written without an error
  pub record Wrote (old new : O) (text : List ℕ) : Type 0 where
    pub appended : Appends (g.written old) (g.written new) text
    pub works : Works (g.broken old) (g.broken new) (g.failures old) (g.failures new)

  -- the output returned this error, after a prefix of the text
  abbrev pub Stopped : O → O → OutFault → List ℕ → Type 0
  Stopped old new Device text = DeviceFails (g.broken old) (g.failures old) (g.failures new)
      × (g.broken new ≡ true)
      × WritesPart (g.written old) (g.written new) text
  Stopped old new Memory text = AllocationFails (g.broken old) (g.failures old) (g.failures new)
      × WritesPart (g.written old) (g.written new) text
  Stopped old new Spent text = (g.broken old ≡ true) × (new ≡ old)

  -- the text was written, or the output failed after a prefix of it
  abbrev pub Writes : {T : Type 0} → O → O → Result T OutFault → List ℕ → Type 0
  Writes old new r text = MatchResult r (λ _. Wrote old new text)
      (λ fault. Stopped old new fault text)
