-- How putting the words of a source to a sink ends, before the sink is finished (profile). gs and
-- gk have the members of the source's and of the sink's type.
use Rattle.std.specs.Prelude.{Bool, Err, List, Ok, Result, [], false, length, true, ℕ, ◌++◌, ◌<◌, ◌∷◌, ◌≡◌, ◌≤◌}
use Rattle.cap_words.specs.Sinks.{sink_fault_of}
use Rattle.cap_words.specs.declared.byte_io.OutFault.{OutFault}
use Rattle.cap_frame.specs.Putting.{Halts}
use Rattle.cap_text.specs.declared.fault.CopyFault.{CopyFault}
use Rattle.cap_text.specs.declared.fault.CopyFault.TheVariants.{Output, Source, TooManyWords}
use Rattle.cap_run.specs.Streams.{EndsStream}
use Rattle.cap_run.specs.Transcoding.{GivesNone, PutsWords, ReadsWords, StopsMidway}
use Rattle.cap_words.specs.declared.sources.WordSource as source
use Rattle.cap_words.specs.declared.sinks.WordSink as sink

-- whether the sink is still to be finished
abbrev pub is_open : Result ℕ CopyFault → Bool
is_open (Ok n) = true
is_open (Err TooManyWords) = true
is_open (Err (Source fault)) = true
is_open (Err (Output fault)) = false

module _ {S K : Type 0} (gs : source.Ghosts S) (gk : sink.Ghosts K) where
  -- n words were read and put.
  pub record Transcodes (old new : S) (before after : K) (n : ℕ) : Type 0 where
    pub own : List ℕ
    pub many : length own ≡ n
    pub gives : ReadsWords gs old new own
    pub fills : PutsWords gk before after own

  -- The output failed as the last of the words that were read was put.
  pub record StopsAt (most : ℕ) (old new : S) (before after : K) (fault : OutFault) : Type 0 where
    pub done : List ℕ
    pub word : ℕ
    pub between : K
    pub few : length done < most
    pub gives : ReadsWords gs old new (done ++ word ∷ [])
    pub fills : PutsWords gk before between done
    pub halts : Halts gk between after (word ∷ []) (sink_fault_of fault)

  -- Why no more words were put: the source was `mid` after the words that were put. Unless the
  -- output failed, the sink isn't finished.
  abbrev pub StopsPutting : ℕ → ℕ → S → S → K → K → Result ℕ CopyFault → Type 0
  StopsPutting at_once most old new before after (Ok n) =
      (mid : S) × (n ≤ most) × Transcodes old mid before after n × EndsStream gs mid new
  StopsPutting at_once most old new before after (Err TooManyWords) =
      (mid : S) × (word : ℕ) × Transcodes old mid before after most
      × ReadsWords gs mid new (word ∷ [])
  StopsPutting at_once most old new before after (Err (Source fault)) =
      (mid : S) × (n : ℕ) × (n ≤ most) × Transcodes old mid before after n × GivesNone gs mid new fault
  StopsPutting at_once most old new before after (Err (Output fault)) =
      StopsMidway gs gk at_once most old new before after fault
