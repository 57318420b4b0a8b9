-- Patterns in the store, their instances, and how a graph's nodes are read back.
pub mod Valued
pub mod Interned
pub mod Sorted
pub mod Instances
pub mod Resolved
pub mod Numbering
pub mod Entries
pub mod ReadBack
pub mod Ground
pub mod Fixed
pub mod Met
pub mod Values
