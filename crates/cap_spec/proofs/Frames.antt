-- Messages in frames, and streams of them.
pub mod Messages
pub mod Framing
pub mod Endings
pub mod OneEnding
pub mod FrameTexts
pub mod Streams
