-- Names of specs that several files cite, passed on from one place. Declares nothing.
pub use Rattle.cap_spec.specs.declared.Reason.{Reason}
pub use Rattle.cap_spec.specs.declared.Reason.TheVariants.{DepthLimit, WordLimit}
pub use Rattle.cap_spec.specs.declared.Step.{Step}
pub use Rattle.cap_spec.specs.declared.Step.TheVariants.{Item, Ptr}
