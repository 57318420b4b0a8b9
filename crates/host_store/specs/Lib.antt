-- What interning a list of nodes leaves, calls written out, and the laws.
pub mod Tried
pub mod Rows
pub mod Turns
