-- The walk that marks what record 9 opens: its tables in work, its turns, and what it gives.
pub mod Held
pub mod Meets
pub mod Notes
pub mod Takes
pub mod Opens
