-- Five maps from a pattern to a number in words, and the trail of their entries.
pub mod Map
pub mod Filled
pub mod Trail
pub mod Holds
pub mod Asking
pub mod Entering
pub mod Undoing
pub mod Dropping
