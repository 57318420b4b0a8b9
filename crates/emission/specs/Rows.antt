-- How the small packs are said, and what a row of their table claims; the rows that hold are in proofs/.
pub mod Row
pub mod Packs
