-- The small packs, a file for each part.
pub mod Length
pub mod Name
pub mod Theory
pub mod Limit
pub mod Certificate
pub mod Verdict
pub mod Classes
pub mod Order
pub mod Unify
pub mod Open
pub mod Table
