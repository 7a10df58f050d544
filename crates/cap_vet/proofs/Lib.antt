mod Keeping
pub mod Founds
mod NodeSteps
mod NearFound
mod Shown
mod Stepping
mod NodeTrees
mod Views
mod PathLax
mod Charging
mod PathEnds
mod GivenPaths
mod ElementPaths
mod AtSomePlace
mod StepsGiven
pub mod PathFaults
mod Bits
mod Marking
mod Pointing
pub mod Ranges
mod MarkingWalk
pub mod Laxness
pub mod Demanding
pub mod ExclusiveFaults
mod Pads
mod UsedPlaces
