mod Rows
mod ShapeKinds
mod PointerReasons
mod NearWords
mod LastWords
mod Needs
mod ValueWords
mod SameObjects
mod OtherObjects
mod Preorders
mod Ends
pub mod OneDifference
mod Found
mod Copied
mod Examples
