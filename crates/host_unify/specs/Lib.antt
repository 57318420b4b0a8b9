-- What unifying two nodes of a list leaves, calls written out, and the laws.
pub mod Solved
pub mod Calls
pub mod Turns
pub mod Tells
