-- Where emission has its words in work, and what the buffers hold of its state.
pub mod Places
pub mod Holding
pub mod Frame
pub mod Writes
pub mod Grown
pub mod Turns
pub mod Onward
pub mod Searches
pub mod Nodes
pub mod Counts
pub mod Lines
pub mod Begin
pub mod Begun
