mod Afters
mod Agreeing
mod Buffers
mod CheckWalks
mod Children
pub mod Copies
mod CopyWalks
mod Elements
mod Entering
mod Filling
pub mod FirstWords
mod Found
pub mod InOrder
pub mod InOrderLists
mod InPlace
mod LaidSteps
mod Lengths
pub mod Needed
pub mod NoCopies
mod NullRuns
pub mod Overs
mod Owing
mod PointerForms
mod Ranges
pub mod Rests
mod Runs
pub mod LaidObjects
mod Structs
mod Trimmed
mod Walks
mod Whole
pub mod WholeObjects
mod ZerosPut
