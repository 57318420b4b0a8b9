-- One attempt at a goal keeps every state sound, and the line that it comes to states the judgment that it comes to.
pub mod Heads
pub mod Behind
pub mod Needed
pub mod Placed
pub mod Lay
pub mod Laid
pub mod Target
pub mod Lift
pub mod Raised
pub mod Output
pub mod Choose
pub mod Memo
pub mod Settled
pub mod Steps
pub mod Lines
pub mod Derive
