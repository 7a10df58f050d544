-- Names of specs that several files cite, passed on from one place. Declares nothing.
pub use Rattle.cap_spec.specs.declared.Lax.{Lax}
pub use Rattle.cap_spec.specs.declared.Refusal.{Refusal}
pub use Rattle.cap_spec.specs.declared.Step.{Step}
pub use Rattle.cap_spec.specs.declared.Step.TheVariants.{Item, Ptr}
pub use Rattle.cap_trace.specs.Branches.{AreBranches, IsBranch, IsRow, path_of, place_of, rest_from, rest_of}
pub use Rattle.cap_trace.specs.Branches.{row_branch, skipped, step_of}
pub use Rattle.cap_trace.specs.PointerNumbers.{IsTraceable, PassesAt}
pub use Rattle.cap_trace.specs.Traces.{GivesPath, GoesBelow, HasCome, HasPassed, IsBlockedAt, IsMissing, IsPut, Passes, ReportsPath}
pub use Rattle.cap_trace.specs.Traces.{word_ahead}
pub use Rattle.cap_trace.specs.declared.below.Below.TheVariants.{Object}
pub use Rattle.cap_trace.specs.declared.branch.Branch.{Branch}
pub use Rattle.cap_trace.specs.declared.branch.Form.{Form}
pub use Rattle.cap_trace.specs.declared.branch.Form.TheVariants.{Pointers, Struct, Structs}
pub use Rattle.cap_trace.specs.declared.branch.WordPlace.{WordPlace}
