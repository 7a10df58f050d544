-- Names of specs that several files cite, passed on from one place. Declares nothing.
pub use Rattle.cap_words.specs.declared.sources.SourceFault.{SourceFault}
pub use Rattle.cap_frame.specs.Bytes.{cut}
pub use Rattle.cap_frame.specs.Framed.{ReportsFront}
pub use Rattle.cap_frame.specs.Fronts.{IsFront, GivesLarge, GivesMany, sizes_given, table_words}
pub use Rattle.cap_frame.specs.Limit.{limit_of}
pub use Rattle.cap_frame.specs.Putting.{Halts}
pub use Rattle.cap_frame.specs.Reading.{ReadsNext, TakesFrame}
pub use Rattle.cap_frame.specs.ReadingFaults.{Faults, TakesTable, frame_fault_of}
pub use Rattle.cap_frame.specs.TablesLeft.{HasSizes, LeavesTable}
pub use Rattle.cap_frame.specs.TableSteps.{LeavesSizes}
pub use Rattle.cap_frame.specs.Taking.{IsUsable, ReadsInput, Stops, Takes}
pub use Rattle.cap_frame.specs.declared.fault.FrameFault.{FrameFault}
