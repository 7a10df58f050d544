-- Names of specs that several files cite, passed on from one place. Declares nothing.
pub use Rattle.cap_spec.specs.declared.CanonFault.TheVariants.{HasCapability}
pub use Rattle.cap_spec.specs.declared.StrictRefusal.{StrictRefusal}
pub use Rattle.cap_spec.specs.declared.StrictRefusal.TheVariants.{ManySegments, Pointer}
pub use Rattle.cap_words.specs.declared.byte_io.OutFault.{OutFault}
pub use Rattle.cap_words.specs.declared.sinks.SinkFault.{SinkFault}
pub use Rattle.cap_walk.specs.declared.demands.Demands.{Demands}
pub use Rattle.cap_text.specs.declared.fault.Cause.{Cause}
pub use Rattle.cap_text.specs.declared.fault.Cause.TheVariants.{Canon, Frame, NotStrict, TooManyMessages}
pub use Rattle.cap_text.specs.declared.fault.CopyFault.{CopyFault}
pub use Rattle.cap_text.specs.declared.fault.CopyFault.TheVariants.{Source, TooManyWords}
pub use Rattle.cap_text.specs.declared.fault.RunFault.{RunFault}
pub use Rattle.cap_run.specs.Canons.{AreCanonised, Canonised, IsCanonised, MakesCopiesUnder, canonised, copies_of}
pub use Rattle.cap_run.specs.Demanding.{IsStrictUnder, OrFault, OrFaultIn, ReportsCheckUnder, ReportsDumpUnder}
pub use Rattle.cap_run.specs.Demanding.{ReportsExclusiveUnder, ReportsGetUnder, ReportsExclusiveness, ReportsVerdictUnder, AllocatesIn}
pub use Rattle.cap_run.specs.Demanding.{AllocatesMarksUnder, AllocatesUnder}
pub use Rattle.cap_run.specs.Engines.{ReachesEnd, StopsEarly, ReportsAll, ReportsStream, TranscodesWords, most_packed_at_once}
pub use Rattle.cap_run.specs.Engines.{most_transcoded, most_unpacked_at_once}
pub use Rattle.cap_run.specs.Explained.{OrFaultLines, ReportsExplainedExclusiveUnder, ReportsExplainedUnder}
pub use Rattle.cap_run.specs.Filtering.{PassesOn, ReadsUntil, ReportsIn, AllocatesInForm}
pub use Rattle.cap_run.specs.Making.{Made}
pub use Rattle.cap_run.specs.PuttingEnds.{Transcodes}
pub use Rattle.cap_run.specs.Running.{Appended, EndStops, RunStops, Settled, SettledAt, StepStops, StopsIn, WritesOneOf}
pub use Rattle.cap_run.specs.FilterSteps.{FilterReports, FilterAllocates}
pub use Rattle.cap_run.specs.Sifting.{FindsRejection, SiftsNext, rejection_text}
pub use Rattle.cap_run.specs.Streams.{EndsStream, ReadsStream, ReadsToEnd}
pub use Rattle.cap_run.specs.Reporting.{Reports, ReportsEach, ReportsSegments, Reported, AllocatesNone, messages_of, noncanonical_in}
pub use Rattle.cap_run.specs.Reporting.{one_noncanonical, one_refused, outcome_of, refused_in, texts_of}
pub use Rattle.cap_run.specs.Transcoding.{Finishes, PutsWords, ReadsWords, StopsMidway, Transcoded, TranscodesAll}
pub use Rattle.cap_run.specs.Vetting.{ReportsAccepted, AllocatesMarks}
pub use Rattle.cap_run.specs.declared.engines.sifting.Rejection.{Rejection}
pub use Rattle.cap_run.specs.declared.engines.stream.Counted.{Counted}
pub use Rattle.cap_run.specs.declared.engines.stream.Counted.TheVariants.{Accepted, NotCanonical}
pub use Rattle.cap_run.specs.declared.settings.Outcome.{Outcome}
