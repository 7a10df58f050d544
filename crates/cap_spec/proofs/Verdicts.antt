-- Accepted or refused, and by which fault.
pub mod OneVerdict
pub mod OneFault
pub mod OnPath
pub mod KeptBefore
pub mod Refusals
pub mod Deciding
