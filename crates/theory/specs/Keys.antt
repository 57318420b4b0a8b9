-- Which steps are needed, and which have one class.
pub mod Needed
pub mod Keyed
pub mod KeyedLaws
pub mod Summed
