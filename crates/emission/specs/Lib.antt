-- Document 01, "Proof lines and goal lines", behind the crate `definition`; docs/DEFINITION.md walks a reader through it. The laws
-- and the small packs, in proofs/, are proved of it and need no belief.
pub mod Text
pub mod Line
pub mod Written
pub mod Render
pub mod Name
pub mod State
pub mod Words
pub mod Patterns
pub mod Prove
pub mod Induct
pub mod Global
pub mod Lay
pub mod Choose
pub mod Derive
pub mod Begin
pub mod Emit
pub mod Calls
pub mod Rows
