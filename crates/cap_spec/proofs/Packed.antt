-- The packed encoding.
pub mod Unpacking
pub mod Groups
pub mod MakingGroups
pub mod OneUnpacking
pub mod UnpackedWords
pub mod PackedEnds
pub mod Packing
pub mod Repacking
