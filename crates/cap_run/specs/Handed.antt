-- How putting words that were read at once to a sink ends in an error (profile). gs and gk have the
-- members of the source's and of the sink's type.
use Rattle.std.specs.Prelude.{List, length, ℕ, ◌<◌, ◌≤◌}
use Rattle.cap_words.specs.Sinks.{sink_fault_of}
use Rattle.cap_words.specs.declared.byte_io.OutFault.{OutFault}
use Rattle.cap_frame.specs.Putting.{Halts}
use Rattle.cap_run.specs.Transcoding.{ReadsWords}
use Rattle.cap_words.specs.declared.sources.WordSource as source
use Rattle.cap_words.specs.declared.sinks.WordSink as sink

module _ {S K : Type 0} (gs : source.Ghosts S) (gk : sink.Ghosts K) where
  -- Some words were read, at most `most`, and the output failed as they were put.
  pub record HandsOver (most : ℕ) (old new : S) (before after : K) (fault : OutFault) : Type 0 where
    pub piece : List ℕ
    pub some : 0 < length piece
    pub few : length piece ≤ most
    pub gives : ReadsWords gs old new piece
    pub halts : Halts gk before after piece (sink_fault_of fault)
