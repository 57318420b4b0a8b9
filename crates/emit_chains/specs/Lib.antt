-- Chains of the rules that conclude a predicate and of a sort's constructors, in the pack's order.
pub mod Chain
pub mod Chaining
pub mod Head
pub mod Places
pub mod Follow
