mod Apart
pub mod Trails
pub mod Tours
mod Children
mod Elements
mod Owing
mod Counting
mod Steps
mod Runs
mod Objects
mod Turning
mod Stacks
mod Passing
mod NullRows
pub mod Verdicts
mod ObjectRuns
pub mod Looks
mod ChargeUpTo
mod Near
pub mod OneReport
pub mod OneTrail
mod LookedPlaces
pub mod PadForms
