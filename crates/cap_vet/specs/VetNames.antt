-- Names of specs that several files cite, passed on from one place. Declares nothing.
pub use Rattle.cap_spec.specs.declared.Kind.{Kind}
pub use Rattle.cap_spec.specs.declared.Lax.{Lax}
pub use Rattle.cap_spec.specs.declared.Reason.{Reason}
pub use Rattle.cap_spec.specs.declared.Refusal.{Refusal}
pub use Rattle.cap_spec.specs.declared.Step.{Step}
pub use Rattle.cap_spec.specs.declared.Step.TheVariants.{Item, Ptr}
pub use Rattle.cap_spec.specs.declared.StrictRefusal.{StrictRefusal}
pub use Rattle.cap_spec.specs.declared.StrictRefusal.TheVariants.{Pointer}
pub use Rattle.cap_vet.specs.Charging.{Arrives, EndsEarly}
pub use Rattle.cap_walk.specs.Demands.{IsDemandFault, Meets, words_under}
pub use Rattle.cap_vet.specs.Exclusives.{IsExclusiveFault}
pub use Rattle.cap_vet.specs.Finding.{IsFound, element_of, own_words}
pub use Rattle.cap_walk.specs.Limits.{depth_of, words_of}
pub use Rattle.cap_walk.specs.Looking.{IsNotLax, object_children}
pub use Rattle.cap_vet.specs.Marks.{Conflicts, IsMarked, MarksAll}
pub use Rattle.cap_vet.specs.NearFinding.{FindsNear}
pub use Rattle.cap_vet.specs.PathDemands.{IsFirstLaxOnPath, IsPathFault, MeetsOnPath}
pub use Rattle.cap_vet.specs.PathStrictness.{AddsPointer, HasNoFaultBy, IsFaultBy, KnowsLaxOnPath}
pub use Rattle.cap_vet.specs.GivenPaths.{GivesAfter}
pub use Rattle.cap_walk.specs.Reports.{IsAccepted, IsFirstCapOf, IsReport, IsVetted}
pub use Rattle.cap_vet.specs.Stricts.{KnowsLax}
pub use Rattle.cap_vet.specs.Taken.{marks_of}
pub use Rattle.cap_walk.specs.Trails.{Ahead, IsTrail}
pub use Rattle.cap_vet.specs.Vettings.{message_of, report_of}
pub use Rattle.cap_vet.specs.Views.{node_message, node_spot}
pub use Rattle.cap_walk.specs.Walking.{IsLookedAt}
pub use Rattle.cap_vet.specs.PathEnds.{IsPathEnd}
pub use Rattle.cap_walk.specs.declared.demands.Demands.{Demands}
pub use Rattle.cap_vet.specs.declared.nodes.charged.Arrival.{Arrival}
pub use Rattle.cap_vet.specs.declared.nodes.found.Found.{Found}
pub use Rattle.cap_vet.specs.declared.nodes.path_start.PathStart.{PathStart}
pub use Rattle.cap_vet.specs.declared.nodes.view.View.{View}
pub use Rattle.cap_vet.specs.declared.nodes.path_end.PathEnd.{PathEnd}
pub use Rattle.cap_vet.specs.declared.nodes.path_end.PathEnd.TheVariants.{To}
pub use Rattle.cap_walk.specs.declared.report.Report.{Report}
pub use Rattle.cap_vet.specs.declared.strictness.strict_turn.LaxPointer.{LaxPointer}
