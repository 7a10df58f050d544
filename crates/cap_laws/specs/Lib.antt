pub mod FollowingLaws
pub mod Framing
pub mod PlainLaws
pub mod PackingLaws
pub mod ReachingLaws
pub mod AmplifyingLaws
pub mod LawNames
pub mod TrimmingLaws
