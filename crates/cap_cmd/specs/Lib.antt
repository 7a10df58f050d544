pub mod Asking
pub mod Files
pub mod Jobs
pub mod Marked
pub mod Marking
pub mod Naming
pub mod Sizes
pub mod Statuses
