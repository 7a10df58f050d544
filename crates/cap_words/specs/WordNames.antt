-- Names of specs that several files cite, passed on from one place. Declares nothing.
pub use Rattle.cap_words.specs.ByteIo.{DeviceFails, Failures, AllocationFails, WasBroken}
pub use Rattle.cap_words.specs.PlainSource.{bytes_left}
pub use Rattle.cap_words.specs.Sinks.{Begins, StoppedPutting, WasPut}
pub use Rattle.cap_words.specs.TakingMany.{TakesAll}
pub use Rattle.cap_words.specs.declared.byte_io.Phase.{Phase}
pub use Rattle.cap_words.specs.declared.byte_io.Phase.TheVariants.{Open}
