pub mod PointerNumbers
pub mod Branches
pub mod EarlierPointers
pub mod NamedPaths
pub mod Traces
pub mod Returns
pub mod TraceNames
