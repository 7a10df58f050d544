-- How a copy of words ends (profile). gs and gk have the members of the source's and of the sink's
-- type.
use Rattle.std.specs.Prelude.{Err, List, Ok, OnSome, Result, Some, [], false, length, true, ℕ, ◌++◌, ◌<◌, ◌∷◌, ◌≡◌, ◌≤◌}
use Rattle.std.specs.Prelude.{◌⊎◌}
use Rattle.cap_words.specs.ByteIo.{Works}
use Rattle.cap_words.specs.Sinks.{Begins, StoppedPutting, WasFinished, WasPut, sink_fault_of}
use Rattle.cap_words.specs.declared.byte_io.OutFault.{OutFault}
use Rattle.cap_words.specs.declared.sources.SourceFault.{SourceFault}
use Rattle.cap_words.specs.declared.sources.SourceFault.TheVariants.{Device, Spent, Truncated}
use Rattle.cap_frame.specs.Putting.{Blames, Halts}
use Rattle.cap_frame.specs.Taking.{Breaks, Refuses, Takes}
use Rattle.cap_text.specs.declared.fault.CopyFault.{CopyFault}
use Rattle.cap_text.specs.declared.fault.CopyFault.TheVariants.{Output, Source, TooManyWords}
use Rattle.cap_run.specs.Streams.{EndsStream}
use Rattle.cap_words.specs.declared.sources.WordSource as source
use Rattle.cap_words.specs.declared.sinks.WordSink as sink

module _ {S : Type 0} (gs : source.Ghosts S) where
  -- These words were read without an error. If there were any, the source wasn't closed before.
  pub record ReadsWords (old new : S) (own : List ℕ) : Type 0 where
    pub takes : Takes gs old new own
    pub usable : (own ≡ []) ⊎ (gs.broken old ≡ false)
    pub broken : gs.broken new ≡ gs.broken old
    pub failures : gs.failures new ≡ gs.failures old

  -- There were no more words, and the input ended at this byte, inside a word.
  pub record IsCutAt (old new : S) (byte : ℕ) : Type 0 where
    pub none : OnSome (gs.words old)
        ((gs.words old ≡ Some []) × (gs.is_cut old ≡ true) × (gs.places old ≡ byte ∷ []))
    pub place : byte ≡ gs.place new
    pub usable : gs.broken old ≡ false
    pub broken : gs.broken new ≡ true
    pub failed : gs.failed new ≡ true
    pub none_failed : gs.failures new ≡ gs.failures old

  -- why there was no next word
  abbrev pub GivesNone : S → S → SourceFault → Type 0
  GivesNone old new (Truncated byte) = IsCutAt old new byte
  GivesNone old new Device = Breaks gs old new
  GivesNone old new Spent = Refuses gs old new

  -- why no more words were put than these: the input ended, the source failed, or a word past
  -- `most` was read
  abbrev pub StopsGiving : ℕ → List ℕ → S → S → Type 0
  StopsGiving most own old new = EndsStream gs old new
      ⊎ (((fault : SourceFault) × GivesNone old new fault)
      ⊎ ((length own ≡ most) × ((word : ℕ) × ReadsWords old new (word ∷ []))))

module _ {K : Type 0} (gk : sink.Ghosts K) where
  -- These words were put without an error.
  pub record PutsWords (old new : K) (own : List ℕ) : Type 0 where
    pub put : WasPut gk.text old new own
    pub closed : gk.closed new ≡ gk.closed old
    pub broken : gk.broken new ≡ gk.broken old
    pub failures : gk.failures new ≡ gk.failures old

  -- Exactly these words were put, and the sink was finished.
  pub record Finishes (old new : K) (own : List ℕ) : Type 0 where
    pub finished : WasFinished gk.text gk.taken old new own
    pub was_open : gk.closed old ≡ false
    pub closed : gk.closed new ≡ true
    pub failures : gk.failures new ≡ gk.failures old

  -- The output returned this error, and what it took is a prefix of the text of these words.
  pub record Spoils (old new : K) (own : List ℕ) (fault : OutFault) : Type 0 where
    pub blames : Blames gk old new (sink_fault_of fault)
    pub closed : gk.closed new ≡ true
    pub part : Begins (gk.text old own) (gk.taken new)

module _ {S K : Type 0} (gs : source.Ghosts S) (gk : sink.Ghosts K) where
  -- The source was read to its end, and its words are exactly those that were put.
  pub record TranscodesAll (most : ℕ) (old new : S) (before after : K) (own : List ℕ) : Type 0 where
    pub few : length own ≤ most
    pub all : OnSome (gs.words old) ((gs.words old ≡ Some own) × (gs.is_cut old ≡ false))
    pub ended : gs.ended new ≡ true
    pub works : Works (gs.broken old) (gs.broken new) (gs.failures old) (gs.failures new)
    pub finishes : Finishes gk before after own

  -- One word more than the most was read, and those before it were put.
  pub record TranscodesMost (most : ℕ) (old new : S) (before after : K) : Type 0 where
    pub own : List ℕ
    pub word : ℕ
    pub many : length own ≡ most
    pub gives : ReadsWords gs old new (own ++ word ∷ [])
    pub finishes : Finishes gk before after own

  -- The source returned this error after the words that were put.
  pub record TranscodesUntil (most : ℕ) (old new : S) (before after : K)
      (fault : SourceFault) : Type 0 where
    pub own : List ℕ
    pub mid : S
    pub few : length own ≤ most
    pub gives : ReadsWords gs old mid own
    pub none : GivesNone gs mid new fault
    pub finishes : Finishes gk before after own

  -- All words that were read were put to the sink, in pieces of at most `at_once` words. The sink
  -- took the pieces before the last, and its output failed at the last. After it no word was read,
  -- or the reading was at its end.
  pub record StopsMidway (at_once most : ℕ) (old new : S) (before after : K)
      (fault : OutFault) : Type 0 where
    pub done : List ℕ
    pub piece : List ℕ
    pub mid : S
    pub between : K
    pub few : length (done ++ piece) ≤ most
    pub some : 0 < length piece
    pub in_pieces : length piece ≤ at_once
    pub gives : ReadsWords gs old mid (done ++ piece)
    pub following : (new ≡ mid) ⊎ StopsGiving gs most (done ++ piece) mid new
    pub fills : PutsWords gk before between done
    pub halts : Halts gk between after piece (sink_fault_of fault)
    pub part : StoppedPutting gk.text gk.taken before after (done ++ piece)

  -- All words that may be copied were put, the source gave no more, and the output failed as the
  -- sink was finished.
  pub record StopsFinishing (most : ℕ) (old new : S) (before after : K)
      (fault : OutFault) : Type 0 where
    pub own : List ℕ
    pub mid : S
    pub few : length own ≤ most
    pub gives : ReadsWords gs old mid own
    pub none : StopsGiving gs most own mid new
    pub spoils : Spoils gk before after own fault

  -- what each result says of a copy of at most `most` words, in pieces of at most `at_once` words
  abbrev pub Transcoded : ℕ → ℕ → S → S → K → K → Result ℕ CopyFault → Type 0
  Transcoded at_once most old new before after (Ok n) = (own : List ℕ) × (n ≡ length own)
      × TranscodesAll most old new before after own
  Transcoded at_once most old new before after (Err TooManyWords) = TranscodesMost most old new before after
  Transcoded at_once most old new before after (Err (Source fault)) = TranscodesUntil most old new before
      after fault
  Transcoded at_once most old new before after (Err (Output fault)) = StopsMidway at_once most old new
      before after fault
      ⊎ StopsFinishing most old new before after fault

-- P, unless reading failed, the output failed, or the input was closed by an earlier error
abbrev pub TranscodeSettled : Result ℕ CopyFault → Type 0 → Type 0
TranscodeSettled (Ok n) P = P
TranscodeSettled (Err TooManyWords) P = P
TranscodeSettled (Err (Source (Truncated byte))) P = P
TranscodeSettled (Err (Source Device)) P = Unit {0}
TranscodeSettled (Err (Source Spent)) P = Unit {0}
TranscodeSettled (Err (Output fault)) P = Unit {0}
