-- Names of specs that several files cite, passed on from one place. Declares nothing.
pub use Rattle.cap_spec.specs.declared.Step.{Step}
pub use Rattle.cap_spec.specs.declared.Step.TheVariants.{Item, Ptr}
pub use Rattle.cap_ptr.specs.Levels.{levels_of}
pub use Rattle.cap_walk.specs.Limits.{depth_of, words_of}
pub use Rattle.cap_walk.specs.Looking.{IsLooked, RunRises, object_children, object_places}
pub use Rattle.cap_walk.specs.PointerRuns.{IsRest, OptionIn, PointerWord, RunIn, element_places, option_spots}
pub use Rattle.cap_walk.specs.PointerRuns.{pointer_word_of, row_places, spots}
pub use Rattle.cap_walk.specs.Reports.{IsAccepted, IsFirstCapOf}
pub use Rattle.cap_walk.specs.Trails.{Ahead, Apart, AreReached, EachApart, Falls, GoOnFrom, IsTrail, IsUnder}
pub use Rattle.cap_walk.specs.Trails.{element_rows, row}
pub use Rattle.cap_walk.specs.Turning.{added, or_place}
pub use Rattle.cap_walk.specs.Turns.{IsWalking}
pub use Rattle.cap_walk.specs.Walking.{HasWalked, IsFirstOf, IsNext, Progress, work_left}
pub use Rattle.cap_walk.specs.declared.limits.Limits.{Limits}
pub use Rattle.cap_walk.specs.declared.report.Report.{Report}
pub use Rattle.cap_walk.specs.declared.looking.Looked.TheVariants.{Object}
pub use Rattle.cap_walk.specs.declared.pointer_run.PointerRun.{PointerRun}
