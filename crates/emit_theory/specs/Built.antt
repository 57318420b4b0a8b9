-- The store that class building leaves is well sorted, for every pack that parses.
pub mod Lifts
pub mod Values
pub mod Closed
pub mod Copying
pub mod Copies
pub mod Valued
pub mod Reads
pub mod Runs
pub mod Heads
pub mod Premise
pub mod Premises
pub mod Adds
pub mod ReadsRule
pub mod Rules
pub mod Whole
pub mod Meets
pub mod Roots
