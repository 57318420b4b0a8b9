-- What the records of a pack say where they stand, and the pack that they are.
pub mod Body
pub mod Held
pub mod Laws
pub mod Reads
pub mod Says
-- Goals and the results of their names.
pub mod Goals
-- A rule's terms as they are spelt.
pub mod Clause
