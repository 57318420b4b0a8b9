-- The failure memory's law: a try at a judgment that wrote no line does the same again.
pub mod IfSome
pub mod Later
pub mod Wrote
pub mod Outcome
pub mod Repeats
pub mod Matching
pub mod Building
pub mod Premises
pub mod Prove
pub mod Memory
