-- What taking words from a source does to it (profile). g has the members of its type.
use Rattle.std.specs.Io.KnownBytes.{Keeps}
use Rattle.std.specs.Prelude.{Bool, IfSome, List, OnSome, [], drop, false, length, true, ℕ, ◌<◌, ◌∷◌, ◌≡◌, ◌⊎◌}
use Rattle.cap_words.specs.ByteIo.{Fails, WasBroken, Works}
use Rattle.cap_words.specs.TakingMany.{ReadsBytes, TakesWords}
use Rattle.cap_words.specs.declared.sources.SourceFault.{SourceFault}
use Rattle.cap_words.specs.declared.sources.SourceFault.TheVariants.{Device, Spent, Truncated}
use Rattle.cap_words.specs.declared.sources.WordSource as source

module _ {X : Type 0} (g : source.Ghosts X) where
  -- these words were taken, and no more
  abbrev pub Takes : X → X → List ℕ → Type 0
  Takes old new own = TakesWords g.words g.is_cut g.place g.places old new own

  -- some bytes of the input were read, and the place counts them
  abbrev pub ReadsInput : X → X → Type 0
  ReadsInput old new = ReadsBytes (g.unread old) (g.unread new) (g.place old) (g.place new)

  -- there was no error: no error has closed it, before or now
  abbrev pub IsUsable : X → X → Type 0
  IsUsable old new = Works (g.broken old) (g.broken new) (g.failures old) (g.failures new)

  -- It has failed where the input ended inside a word, and else it has ended.
  abbrev pub IsOver : Bool → X → Type 0
  IsOver true new = g.failed new ≡ true
  IsOver false new = g.ended new ≡ true

  -- It ended at this byte, after words of which P holds.
  pub record EndsAfter (P : List ℕ → Type 0) (old new : X) (byte : ℕ) : Type 0 where
    pub short : IfSome (g.words old) (λ ws. P ws × (drop (length ws) (g.places old) ≡ byte ∷ []))
    pub place : byte ≡ g.place new
    pub usable : g.broken old ≡ false
    pub none_failed : g.failures new ≡ g.failures old
    pub over : (g.ended new ≡ true) ⊎ (g.failed new ≡ true)
    pub how : OnSome (g.words old) (IsOver (g.is_cut old) new)

  -- Its device failed.
  pub record Breaks (old new : X) : Type 0 where
    pub fails : Fails (g.broken old) (g.failures old) (g.failures new)
    pub broken : g.broken new ≡ true
    pub failed : g.failed new ≡ true

  -- An earlier fault had ended it.
  pub record Refuses (old new : X) : Type 0 where
    pub was_broken : WasBroken (g.broken old) (g.broken new) (g.failures old) (g.failures new)
    pub failed : g.failed new ≡ true
    pub place : g.place new ≡ g.place old
    pub unread : Keeps (g.unread old) (g.unread new)

  -- why it didn't give n words
  abbrev pub Stops : ℕ → X → X → SourceFault → Type 0
  Stops n old new (Truncated byte) = EndsAfter (λ ws. length ws < n) old new byte
  Stops n old new Device = Breaks old new
  Stops n old new Spent = Refuses old new
