mod Examples
mod TreeExamples
mod ReasonExamples
mod LimitExamples
mod CycleExamples
mod SharedExamples
mod CanonicalExamples
mod StrictExamples
mod SignExamples
pub mod Trimming
