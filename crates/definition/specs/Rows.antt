-- How the small packs are said, and what a row of their table claims; the rows that hold are in proofs/.
pub mod Say
pub mod Packs
pub mod Row
pub mod Front
