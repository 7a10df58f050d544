pub mod Appends
pub mod Charges
pub mod Cycles
pub mod Places
pub mod Reasons
pub mod RowSteps
pub mod Targets
pub mod ExplainedFaults
