-- Names of specs that several files cite, passed on from one place. Declares nothing.
pub use Rattle.cap_spec.specs.declared.CanonFault.{CanonFault}
pub use Rattle.cap_spec.specs.declared.Step.{Step}
pub use Rattle.cap_walk.specs.declared.report.Report.{Report}
pub use Rattle.cap_canon.specs.Checked.{IsChecked}
pub use Rattle.cap_canon.specs.CopyRuns.{AreShort, IsFull, IsCopyRest, OptionFull, all_places, first_place, further_places}
pub use Rattle.cap_canon.specs.CopyRuns.{option_places, place, places_of, copy_root_run, copy_row_places}
pub use Rattle.cap_canon.specs.FirstWords.{first_words}
pub use Rattle.cap_canon.specs.Found.{IsStructAt}
pub use Rattle.cap_canon.specs.InOrder.{Differs, HasNoWords, IsNotCanonical, NoCopyHas}
pub use Rattle.cap_canon.specs.Laying.{AreBefore, Due, IsPointed, Laid, OwnAt, below, element_slots, own_size, slots}
pub use Rattle.cap_canon.specs.Objects.{AreElementsLeft, AreLeft, IsObject}
pub use Rattle.cap_canon.specs.Roots.{ForTrimmed, HasTree}
pub use Rattle.cap_canon.specs.StillToLay.{AreOwed, IsNextToCopy, IsCopying, NextLeadsTo, Stacked, longest_copy, copy_work_left}
pub use Rattle.cap_canon.specs.Trimming.{NeedsLess, most_data}
pub use Rattle.cap_canon.specs.declared.objects.Object.{Object}
pub use Rattle.cap_canon.specs.declared.objects.Part.{Part}
pub use Rattle.cap_canon.specs.declared.run.CopyRun.{CopyRun}
pub use Rattle.cap_canon.specs.declared.run.PointerPlace.{PointerPlace}
