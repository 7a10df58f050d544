-- Names of specs that several files cite, passed on from one place. Declares nothing.
pub use Rattle.cap_spec.specs.declared.Kind.{Kind}
pub use Rattle.cap_words.specs.declared.byte_io.OutFault.{OutFault}
pub use Rattle.cap_text.specs.Dumping.{word_letter_of}
pub use Rattle.cap_text.specs.Paging.{Added, Adds, Halted}
pub use Rattle.cap_text.specs.Writing.{Stopped, Writes, Wrote}
