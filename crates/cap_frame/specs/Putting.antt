-- What putting the words of a message does to a sink (profile). g has the members of its type.
use Rattle.std.specs.Prelude.{Err, List, Ok, Result, false, true, ℕ, ◌≡◌}
use Rattle.cap_words.specs.WordNames.{DeviceFails, AllocationFails, WasBroken, StoppedPutting, WasPut}
use Rattle.cap_words.specs.declared.sinks.SinkFault.{SinkFault}
use Rattle.cap_words.specs.declared.sinks.SinkFault.TheVariants.{Device, Memory, Spent}
use Rattle.cap_words.specs.declared.sinks.WordSink as sink

module _ {K : Type 0} (g : sink.Ghosts K) where
  -- These words were put, and the sink wasn't finished.
  pub record Puts (old new : K) (words : List ℕ) : Type 0 where
    pub put : WasPut g.text old new words
    pub was_open : g.closed old ≡ false
    pub is_open : g.closed new ≡ false
    pub broken : g.broken new ≡ g.broken old
    pub none_failed : g.failures new ≡ g.failures old

  -- what each fault says of the output
  abbrev pub Blames : K → K → SinkFault → Type 0
  Blames old new Device = DeviceFails (g.broken old) (g.failures old) (g.failures new)
  Blames old new Memory = AllocationFails (g.broken old) (g.failures old) (g.failures new)
  Blames old new Spent = WasBroken (g.broken old) (g.broken new) (g.failures old) (g.failures new)

  -- A fault came while these words were put.
  pub record Halts (old new : K) (words : List ℕ) (fault : SinkFault) : Type 0 where
    pub stopped : StoppedPutting g.text g.taken old new words
    pub closed : g.closed new ≡ true
    pub blames : Blames old new fault

  -- they were put, or a fault came
  abbrev pub PutsOrHalts : K → K → List ℕ → Result (Unit {0}) SinkFault → Type 0
  PutsOrHalts old new words (Ok x) = Puts old new words
  PutsOrHalts old new words (Err fault) = Halts old new words fault
