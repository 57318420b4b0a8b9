-- The instance test: its tables in work, and the walk over them.
pub mod Held
pub mod Binds
pub mod Pushes
pub mod Taking
pub mod Meets
pub mod Takes
pub mod AtHand
pub mod Matches
pub mod Begins
