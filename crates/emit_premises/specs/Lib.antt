-- A rule's premises as patterns.
pub mod Open
pub mod Frames
pub mod Amid
pub mod Turned
pub mod Reading
pub mod Closing
pub mod Ended
pub mod Goings
pub mod Begun
pub mod Outcome
pub mod Premised
pub mod Readied
pub mod Answered
