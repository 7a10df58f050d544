pub mod PathReading
pub mod PathSteps
