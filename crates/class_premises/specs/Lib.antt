-- The buffers that are lent, and the places in work.
pub mod Buffers
pub mod Layout
-- What one premise makes of the term graph.
pub mod Noted
pub mod Joins
pub mod Meets
pub mod Copied
pub mod Takes
-- What class building holds of the classes that are made.
pub mod RowWords
pub mod Rows
pub mod Standing
pub mod Row
pub mod Added
pub mod More
pub mod Grown
-- All premises of the step that makes a class.
pub mod Given
pub mod Next
pub mod Asked
pub mod AllPremises
