pub mod PathReading
pub mod ReadSteps
pub mod StepsLeft
